-- `line_read::headers::header` meets its contract: each way out is a way through `header_said`. Assumes nothing.
use mathlib.Core.Path.{refl, ap}
use Rattle.rules.specs.Refusals.{says, result_told}
use Rattle.rules.proofs.Handed.{handed_on}
use Rattle.rules.proofs.Links.{then_ok, then_err}
use Rattle.line_known.proofs.Laws.{kind_ok, kind_err}
use Rattle.line_read.specs.Headers.{header_said}
use Rattle.line_read.proofs.headers.header.Goals as goal

pub returns-in_err-of_kind : goal.returns-in_err-of_kind
unfolding header_said
returns-in_err-of_kind c = handed_on _ _ _ c.from_residual.ensures.1 (kind_err _ _ _ _ c.of_kind.ensures c.in_err-of_kind.was)

pub returns-in_err-header : goal.returns-in_err-header
unfolding header_said
returns-in_err-header c =
    handed_on _ _ _ c.from_residual-in_err-header.ensures.1
    (kind_ok _ _ _ _ _ _ c.of_kind.ensures c.in_ok-of_kind.was (then_err _ _ _ _ _ c.header.ensures c.in_err-header.was refl))

pub returns : goal.returns
unfolding header_said result_told
returns c =
    kind_ok _ _ _ _ _ _ c.of_kind.ensures c.in_ok-of_kind.was (then_ok _ _ _ _ _ c.header.ensures c.in_ok-header.was (ap says c.header_in.ensures))
