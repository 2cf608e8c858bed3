-- Each way out of `refused` and `for_flight` is a way through what is said of a flight. Assumes nothing.
use Rattle.std.specs.Prelude.{Err, Ok, Result}
use Rattle.std.specs.Result.{result_unwrap_or}
use Prim.Native.Nat.{ℕ, ◌≤◌, ◌<◌}
use mathlib.Core.Path.{◌≡◌, refl, ap, ◌∙◌}
use borrow.Author.Tests.{le-leb, lt-leb}
use Rattle.rules.specs.Families.{count_of}
use Rattle.rules.specs.Layouts.{empty_layout}
use Rattle.rules.specs.Refusals.{refusal, value_or, result_told}
use Rattle.rules.specs.declared.Family.TheVariants as family
use Rattle.rules.specs.declared.Flight.{Flight}
use Rattle.rules.specs.declared.Reason.TheVariants as reason
use Rattle.rules.specs.declared.Refusal.{Refusal}
use Rattle.file_lines.specs.Ends.{unplaced}
use Rattle.track_rules.specs.declared.Progress.{Progress}
use Rattle.track_course.specs.Courses.{start_by, fix_size, CourseTold, FlightPlanned}
use Rattle.track_course.specs.declared.Course.{Course}

-- ---- the length of a B line

pub size_told : (r : Result ℕ Refusal) → result_unwrap_or r 0 ≡ value_or 0 (result_told r)
unfolding result_told
size_told (Ok n) = refl
size_told (Err w) = refl

-- ---- the plan

pub refused_told : (w : Refusal) (start : Progress) → start ≡ start_by 0 empty_layout → CourseTold (refusal w) (record { answer = Err w; count = 0; start = start })
unfolding result_told
refused_told w start e = record { told = refl; count = refl; start = e }

module _ (f : Flight) (room : ℕ) where
  pub flight_short : (w : Refusal) (r : Course) → room < count_of family.B f.counts → w ≡ unplaced reason.NoRoom → CourseTold (refusal w) r → FlightPlanned f room r
  flight_short w r h e t = rw (lt-leb (count_of family.B f.counts) room h) (rw e at t)

  pub flight_fits : (size : ℕ) (start : Progress) → count_of family.B f.counts ≤ room → size ≡ fix_size f → start ≡ start_by size f.layouts.b
      → FlightPlanned f room (record { answer = Ok (count_of family.B f.counts); count = count_of family.B f.counts; start = start })
  unfolding result_told
  flight_fits size start h e g = rw (le-leb (count_of family.B f.counts) room h) (record { told = refl; count = refl; start = g ∙ ap (λ (n : ℕ). start_by n f.layouts.b) e })
