-- `summary_fix::plain_time` meets its contract. Assumes nothing.
use native.Mathlib.Omega.{arith}
use borrow.Author.Rules.{rules}
use Rattle.byte_tens.proofs.Laws.{told_least, told_most}
use Rattle.summary_fix.proofs.Laws.{time_divided}
use Rattle.summary_fix.proofs.plain_time.Goals as goal

pub overflow_cast-result : goal.overflow_cast-result
overflow_cast-result c = omega (arith, told_most _ _ c.power.ensures)

pub nonzero_div-result : goal.nonzero_div-result
nonzero_div-result c = search told_least

pub returns : goal.returns
returns c = search (time_divided, rules)
