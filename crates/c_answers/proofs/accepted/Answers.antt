-- `accepted` meets its contract: the first i values are stored. Assumes nothing.
use Rattle.std.proofs.Common.{◌≤◌, ◌-◌, min, length, refl, arith}
use Rattle.c_answers.specs.Answers.{size}
use Rattle.c_answers.proofs.Laws.{value_more, values_all}
use Rattle.c_answers.proofs.accepted.Goals as goal

pub loop-i-preserved : goal.loop-i-preserved
loop-i-preserved c = let l = c.loop-i in value_more l.all c.args.values.now l.i l.invariant (omega arith) (omega arith)

pub returns : goal.returns
returns c = let l = c.loop-i in values_all l.all c.args.values.now l.i l.invariant (let h : min (length c.args.values.now) (size - 2) ≤ l.i = omega arith in h)

pub loop-i-init : goal.loop-i-init
loop-i-init c = refl
