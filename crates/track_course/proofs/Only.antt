-- One answer at most meets each promise of this crate. Assumes nothing.
use Prim.Native.Nat.{ℕ}
use mathlib.Core.Path.{◌≡◌}
use Rattle.rules.specs.Refusals.{Said}
use Rattle.rules.specs.declared.Flight.{Flight}
use Rattle.rules.specs.declared.Refusal.{Refusal}
use Rattle.rules_only.proofs.Told.{result_one}
use Rattle.rules_only.proofs.Only.{Only, same, alike}
use Rattle.track_course.specs.Courses.{CourseTold, CourseRefused, FlightPlanned}

pub course_only : {s : Said Flight} → Only (CourseTold s)
course_only r r' e e' =
    let answer : r.answer ≡ r'.answer = alike result_one r.answer r'.answer e.told e'.told in
    let count : r.count ≡ r'.count = same r.count r'.count e.count e'.count in
    let start : r.start ≡ r'.start = same r.start r'.start e.start e'.start in
    λ i. record { answer = answer i; count = count i; start = start i }

pub only_course_refused : (why : Refusal) → Only (CourseRefused why)
only_course_refused why = course_only

pub only_flight_planned : (f : Flight) (room : ℕ) → Only (FlightPlanned f room)
only_flight_planned f room = course_only
