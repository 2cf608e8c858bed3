-- `declaration::head_of` meets its contract. Assumes nothing.
use mathlib.Core.Path.{ap, ◌∙◌}
use Rattle.std.specs.Result.{result_unwrap_or}
use Rattle.rules.specs.declared.Head.{Head}
use Rattle.declaration.proofs.Pointing.{or_said}
use Rattle.declaration.proofs.head_of.Goals as goal

pub returns : goal.returns
returns c = c.unwrap_or.ensures ∙ ap (λ (d : Head). result_unwrap_or c.head.result d) c.no_head.ensures ∙ or_said _ _ _ c.head.ensures
