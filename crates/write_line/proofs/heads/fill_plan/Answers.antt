-- `write_line::heads::fill_plan` meets its contract. Assumes nothing.
use Rattle.byte_put.proofs.Laws.{puts}
use Rattle.write_ending.proofs.Laws.{regroup}
use Rattle.write_line.proofs.Laws.{planned_then}
use Rattle.write_line.proofs.heads.fill_plan.Goals as goal

pub returns : goal.returns
returns c = search (puts, planned_then, regroup) depth 16
