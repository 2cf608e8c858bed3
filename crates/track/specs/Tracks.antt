-- What is planned for a list, and the promise of the whole track.
use Rattle.rules.specs.Refusals.{result_told}
use Rattle.rules.specs.declared.Refusal.{Refusal}
use Rattle.std.specs.Prelude.{ℕ, List, ◌≡◌, length, Result}
use Rattle.track_rules.specs.Track.{flight_tracked, track_said, list_after}
use Rattle.track_rules.specs.declared.Record.{Record}
use Rattle.track_course.specs.Courses.{CourseTold}
use Rattle.track_course.specs.declared.Course.{Course}

-- "Refusals: the file's own, then 18 if the list is short"
abbrev pub CoursePlanned : List ℕ → ℕ → Course → Type 0
CoursePlanned file room r = CourseTold (flight_tracked file room) r

-- "all fixes of an accepted file in one call, as a lent list of fix records": the answer, and the list afterwards
pub record FileTracked (file : List ℕ) (list : List Record) (r : Result ℕ Refusal) (after : List Record) : Type 0 where
  pub told : result_told r ≡ track_said file (length list)
  pub records : after ≡ list_after file list
