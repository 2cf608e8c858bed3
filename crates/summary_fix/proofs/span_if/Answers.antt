-- `summary_fix::span_if` meets its contract. Assumes nothing.
use mathlib.Core.Path.{◌∙◌}
use Rattle.summary_fix.proofs.Laws.{span_told}
use Rattle.summary_fix.proofs.span_if.Goals as goal

pub returns : goal.returns
returns c = c.then_some.ensures ∙ span_told _ _
