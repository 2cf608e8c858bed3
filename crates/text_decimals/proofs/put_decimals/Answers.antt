-- `text_decimals::put_decimals` meets its contract. Assumes nothing.
use native.Mathlib.Omega.{arith}
use borrow.Author.Rules.{rules}
use Rattle.byte_tens.proofs.Laws.{told_most}
use Rattle.text_decimals.proofs.Laws.{whole_least, rest_below, degrees_fill}
use Rattle.text_decimals.proofs.put_decimals.Goals as goal

pub overflow_mul-count : goal.overflow_mul-count
overflow_mul-count c =
    omega (arith, rest_below _ c.args.count _ c.power-whole.ensures)

pub overflow_add-count : goal.overflow_add-count
overflow_add-count c =
    omega (arith, rest_below _ c.args.count _ c.power-whole.ensures)

pub returns : goal.returns
returns c =
    degrees_fill _ _ _ _ _ _ _ _ _ c.requires c.power-whole.ensures c.put_decimal-a.ensures c.put_behind_dot.ensures

pub overflow_mul-whole : goal.overflow_mul-whole
overflow_mul-whole c = omega (arith, told_most _ _ c.power-whole.ensures)

pub nonzero_div-count : goal.nonzero_div-count
nonzero_div-count c = whole_least _ 0 _ c.power-whole.ensures

pub nonzero_rem-count : goal.nonzero_rem-count
nonzero_rem-count c = whole_least _ 0 _ c.power-whole.ensures
