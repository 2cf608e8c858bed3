-- `line_read::point` meets its contract: each way out is a way through `point_said`. Assumes nothing.
use Rattle.rules.specs.Reads.{point_said}
use Rattle.rules.proofs.Handed.{handed_on}
use Rattle.line_known.proofs.Laws.{kind_ok, kind_err}
use Rattle.line_read.proofs.point.Goals as goal

pub returns-in_err-of_kind : goal.returns-in_err-of_kind
unfolding point_said
returns-in_err-of_kind c = handed_on _ _ _ c.from_residual.ensures.1 (kind_err _ _ _ _ c.of_kind.ensures c.in_err-of_kind.was)

pub returns : goal.returns
unfolding point_said
returns c = kind_ok _ _ _ _ _ _ c.of_kind.ensures c.in_ok-of_kind.was c.point_line.ensures
