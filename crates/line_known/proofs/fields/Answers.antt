-- `fields` meets its contract: each way out is a way through `fields_known`. Assumes nothing.
use Rattle.rules.proofs.Handed.{handed_on}
use Rattle.line_known.specs.Known.{fields_known}
use Rattle.line_known.proofs.Laws.{kind_ok, kind_err}
use Rattle.line_known.proofs.fields.Goals as goal

pub returns-in_err-of_kind : goal.returns-in_err-of_kind
unfolding fields_known
returns-in_err-of_kind c = handed_on _ _ _ c.from_residual.ensures.1 (kind_err _ _ _ _ c.of_kind.ensures c.in_err-of_kind.was)

pub returns : goal.returns
unfolding fields_known
returns c = kind_ok _ _ _ _ _ _ c.of_kind.ensures c.in_ok-of_kind.was c.fix_line.ensures
