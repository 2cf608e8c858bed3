-- `track_course::refused` meets its contract. Assumes nothing.
use mathlib.Core.Path.{ap, ◌∙◌}
use Rattle.track_course.specs.Courses.{start_by}
use Rattle.track_course.proofs.Planned.{refused_told}
use Rattle.track_course.proofs.refused.Goals as goal

pub returns : goal.returns
returns c = refused_told _ _ (c.set_out.ensures ∙ ap (start_by 0) c.empty_layout.ensures)
