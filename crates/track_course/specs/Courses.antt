-- The answer of a track in the paper's terms, and the course of a track by what is said of a file.
use Rattle.std.specs.Prelude.{ℕ, ◌≡◌, leb}
use Rattle.rules.specs.Choice.{need}
use Rattle.rules.specs.Families.{count_of}
use Rattle.rules.specs.Fixes.{finer_of}
use Rattle.rules.specs.Layouts.{empty_layout, length_said}
use Rattle.rules.specs.Refusals.{Said, says, refuses, no, refusal, and_then, value_or, result_told}
use Rattle.rules.specs.declared.Family.TheVariants as family
use Rattle.rules.specs.declared.Flight.{Flight}
use Rattle.rules.specs.declared.Layout.{Layout}
use Rattle.rules.specs.declared.Reason.TheVariants.{NoRoom}
use Rattle.rules.specs.declared.Refusal.{Refusal}
use Rattle.track_rules.specs.declared.Progress.{Progress}
use Rattle.track_course.specs.declared.Course.{Course}

-- the answer, in the paper's terms

-- before the first line, by the length of B lines and their layout
abbrev pub start_by : ℕ → Layout → Progress
start_by size layout = record { at = 0; lines = 0; clock = 0; day = 0; size = size; finer = finer_of layout }

abbrev pub StartGiven : ℕ → Layout → Progress → Type 0
StartGiven size layout r = r ≡ start_by size layout

-- how many bytes a B line has by the file's layout; 0 for a layout that is not allowed, which no file has
abbrev pub fix_size : Flight → ℕ
fix_size f = value_or 0 (length_said family.B f.layouts.b)

-- how many records are to be stored, and where the reading starts; nothing where refused
abbrev pub count_in : Said Flight → ℕ
count_in (says f) = count_of family.B f.counts
count_in (refuses n l b) = 0

abbrev pub start_in : Said Flight → Progress
start_in (says f) = start_by (fix_size f) f.layouts.b
start_in (refuses n l b) = start_by 0 empty_layout

-- the plan for what is said of a file
pub record CourseTold (s : Said Flight) (r : Course) : Type 0 where
  pub told : result_told r.answer ≡ and_then s λ f. says (count_of family.B f.counts)
  pub count : r.count ≡ count_in s
  pub start : r.start ≡ start_in s

-- "Refusals: the file's own", as the check told it
abbrev pub CourseRefused : Refusal → Course → Type 0
CourseRefused w r = CourseTold (refusal w) r

-- "then 18 if the list is short", of a file that was accepted
abbrev pub FlightPlanned : Flight → ℕ → Course → Type 0
FlightPlanned f room r = CourseTold (need (leb (count_of family.B f.counts) room) (no NoRoom 0) λ _. says f) r
