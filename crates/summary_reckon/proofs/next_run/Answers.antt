-- `summary_reckon::next_run` meets its contract. Assumes nothing.
use mathlib.Core.Path.{◌∙◌}
use Rattle.summary_reckon.proofs.Turning.{next_up}
use Rattle.summary_reckon.proofs.next_run.Goals as goal

pub returns : goal.returns
returns c = c.min.ensures ∙ next_up _
