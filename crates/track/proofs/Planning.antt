-- What the check says of a file, made into a plan: each way out of `plan` is a way through `flight_tracked`. Assumes nothing.
use Rattle.std.specs.Prelude.{Err, None, Ok}
use Prim.Native.Nat.{ℕ, ◌≤◌}
use mathlib.Core.Bool.{Bool, true, false}
use mathlib.Core.List.{List}
use mathlib.Core.Path.{◌≡◌, refl, sym, ap, subst}
use native.Mathlib.Omega.{arith}
use borrow.Author.Tests.{leb-true}
use lib.Dec.{leb}
use Rattle.rules.specs.Choice.{need}
use Rattle.rules.specs.Families.{count_of}
use Rattle.rules.specs.Files.{verdict, CheckedTold}
use Rattle.rules.specs.Order.{no_flight}
use Rattle.rules.specs.Refusals.{Said, says, refuses, no, refusal, and_then, outcome, value_or, result_told}
use Rattle.rules.specs.declared.Checked.{Checked}
use Rattle.rules.specs.declared.Family.TheVariants as family
use Rattle.rules.specs.declared.Flight.{Flight}
use Rattle.rules.specs.declared.Reason.TheVariants as reason
use Rattle.rules.specs.declared.Refusal.{Refusal}
use Rattle.rules.proofs.Inverse.{refuses_says}
use Rattle.track_rules.specs.Track.{track_seal, flight_tracked}
use Rattle.track_course.specs.Courses.{count_in, CourseTold, FlightPlanned}
use Rattle.track.specs.Tracks.{CoursePlanned}
use Rattle.track_course.specs.declared.Course.{Course}

-- ---- the plan

-- a refusal with no value, as one of a flight
flightless : Said (Unit {0}) → Said Flight
flightless (says u) = refuses 0 0 0
flightless (refuses n l b) = refuses n l b

module _ (file : List ℕ) (room : ℕ) (c : Checked) (r : Course) (t : CheckedTold (verdict track_seal file None) c) where
  abbrev Told : Said Flight → Type 0
  Told s = CourseTold (and_then s λ f. need (leb (count_of family.B f.counts) room) (no reason.NoRoom 0) λ _. says f) r

  pub plan_refused : (w : Refusal) → c.outcome ≡ Err w → CourseTold (refusal w) r → CoursePlanned file room r
  unfolding flight_tracked result_told flightless
  plan_refused w g h = by (verdict track_seal file None) (rw g at t.answer)
    where
      by : (s : Said Flight) → refusal w ≡ outcome s → Told s
      by (says f) e = absurd (refuses_says e)
      by (refuses n l b) e = subst (λ (s : Said Flight). CourseTold s r) (ap flightless e) h

  pub plan_accepted : c.outcome ≡ (Ok tt) → FlightPlanned c.flight room r → CoursePlanned file room r
  unfolding flight_tracked result_told
  plan_accepted g h = by (verdict track_seal file None) (rw g at t.answer) t.flight
    where
      by : (s : Said Flight) → says tt ≡ outcome s → c.flight ≡ value_or no_flight s → Told s
      by (says f) e k = subst (λ (x : Flight). FlightPlanned x room r) k h
      by (refuses n l b) e k = absurd (refuses_says (sym e))

-- ---- no more records are planned than there is room for

within : (b : Bool) (f : Flight) (room n : ℕ) → (b ≡ true → count_of family.B f.counts ≤ room) → n ≡ count_in (need b (no reason.NoRoom 0) λ _. says f) → n ≤ room
within true f room n h e = rw e (h refl)
within false f room n h e = omega arith

pub planned_within : (file : List ℕ) (room : ℕ) (p : Course) → CoursePlanned file room p → p.count ≤ room
unfolding flight_tracked
planned_within file room p w = by (verdict track_seal file None) w.count
  where
    by : (s : Said Flight) → p.count ≡ count_in (and_then s λ f. need (leb (count_of family.B f.counts) room) (no reason.NoRoom 0) λ _. says f) → p.count ≤ room
    by (says f) e = within (leb (count_of family.B f.counts) room) f room p.count (leb-true _ _) e
    by (refuses n l b) e = omega arith
