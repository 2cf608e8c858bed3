-- `line_read::point_rest` meets its contract. Assumes nothing.
use Rattle.line_read.proofs.Laws.{point_behind, point_none}
use Rattle.line_read.proofs.point_rest.Goals as goal

pub returns-in-Ok : goal.returns-in-Ok
returns-in-Ok c = point_behind _ _ _ c.point.ensures _ _ c.in-Ok.is c.behind.ensures

pub returns-in-Err : goal.returns-in-Err
returns-in-Err c = point_none _ _ _ c.point.ensures _ c.in-Err.is
