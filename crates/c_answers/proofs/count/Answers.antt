-- `count` meets its contract. Assumes nothing.
use Rattle.rules.specs.Refusals.{result_told}
use Rattle.c_answers.proofs.count.Goals as goal

pub returns-in-Ok : goal.returns-in-Ok
unfolding result_told
returns-in-Ok c = rw c.in-Ok.is c.accepted.ensures

pub returns-in-Err : goal.returns-in-Err
unfolding result_told
returns-in-Err c = rw c.in-Err.is c.refused.ensures
