-- `line_finer::refined` meets its contract: a count of at most 10,800,000 with four digits more does not wrap. Assumes nothing.
use native.Mathlib.Omega.{arith}
use Rattle.line_finer.proofs.Laws.{power_of_lem, digits_few, taken_few, refined_is}
use Rattle.line_finer.proofs.refined.Goals as goal

pub overflow_mul-result : goal.overflow_mul-result
overflow_mul-result c =
    let p = power_of_lem c.args.line.now c.args.reach c.requires.1 _ _ c.decimals_of.ensures c.power.ensures in
    rw p (omega (arith, c.requires.0, taken_few c.args.line.now c.args.reach c.requires.1 c.args.count))

pub overflow_add-result : goal.overflow_add-result
overflow_add-result c =
    let l = c.args.line.now in
    let p = power_of_lem l c.args.reach c.requires.1 _ _ c.decimals_of.ensures c.power.ensures in
    rw (p, c.digits_at.ensures) (omega (arith, c.requires.0, taken_few l c.args.reach c.requires.1 c.args.count, digits_few l c.args.reach c.requires.1))

pub returns : goal.returns
returns c =
    let l = c.args.line.now in
    refined_is l c.args.reach _ _ _ (power_of_lem l c.args.reach c.requires.1 _ _ c.decimals_of.ensures c.power.ensures) c.digits_at.ensures
