-- `track_course::fix_size` meets its contract. Assumes nothing.
use mathlib.Core.Path.{◌∙◌, ap}
use Rattle.rules.specs.Refusals.{value_or}
use Rattle.track_course.proofs.Planned.{size_told}
use Rattle.track_course.proofs.fix_size.Goals as goal

pub returns : goal.returns
returns c = c.unwrap_or.ensures ∙ size_told _ ∙ ap (value_or 0) c.length.ensures
