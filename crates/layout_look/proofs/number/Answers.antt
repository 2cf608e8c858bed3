-- `layout_look::number` meets its contract: each way out is a way through `look_number`. Assumes nothing.
use mathlib.Core.Path.{refl}
use Rattle.rules.specs.Looks.{look_number}
use Rattle.rules.specs.Refusals.{result_told}
use Rattle.rules.proofs.Handed.{handed_on}
use Rattle.rules.proofs.Links.{then_err}
use Rattle.layout_look.proofs.Laws.{texts}
use Rattle.layout_look.proofs.number.Goals as goal

pub returns-in_err-span : goal.returns-in_err-span
unfolding look_number
returns-in_err-span c = handed_on _ _ _ c.from_residual.ensures.1 (then_err _ _ _ _ _ c.column.ensures c.in_err-span.was refl)

pub returns-in_default : goal.returns-in_default
unfolding look_number result_told
returns-in_default c = search (texts, c.in_ok-span.was) depth 8

pub returns : goal.returns
unfolding look_number result_told
returns c = search (texts, c.in_ok-span.was) depth 8
