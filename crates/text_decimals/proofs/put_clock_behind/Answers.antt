-- `text_decimals::put_clock_behind` meets its contract. Assumes nothing.
use native.Mathlib.Omega.{arith}
use borrow.Author.Rules.{rules}
use Rattle.byte_tens.proofs.Laws.{told_least, told_most, told_few}
use Rattle.text_decimals.proofs.Laws.{clock_fills}
use Rattle.text_decimals.proofs.put_clock_behind.Goals as goal

pub overflow_cast-seconds : goal.overflow_cast-seconds
overflow_cast-seconds c = omega (arith, told_most _ _ c.power.ensures)

pub nonzero_div-seconds : goal.nonzero_div-seconds
nonzero_div-seconds c = search told_least

pub put_extra-requires : goal.put_extra-requires
put_extra-requires c = omega (arith, told_few _ _ c.few-n.ensures)

pub returns : goal.returns
returns c = search (clock_fills, rules)
