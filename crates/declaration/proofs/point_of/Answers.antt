-- `declaration::point_of` meets its contract. Assumes nothing.
use mathlib.Core.Path.{◌∙◌}
use Rattle.declaration.proofs.Pointing.{or_said}
use Rattle.declaration.proofs.point_of.Goals as goal

pub returns : goal.returns
returns c = c.unwrap_or.ensures ∙ or_said _ _ _ c.point.ensures
