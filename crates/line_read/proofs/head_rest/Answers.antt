-- `line_read::head_rest` meets its contract. Assumes nothing.
use Rattle.line_read.proofs.Laws.{head_behind, head_none}
use Rattle.line_read.proofs.head_rest.Goals as goal

pub returns-in-Ok : goal.returns-in-Ok
returns-in-Ok c = head_behind _ _ _ c.head.ensures _ _ c.in-Ok.is c.behind.ensures

pub returns-in-Err : goal.returns-in-Err
returns-in-Err c = head_none _ _ _ c.head.ensures _ c.in-Err.is
