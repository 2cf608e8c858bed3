-- What the code answers and leaves in the list, by the number of fixes, is what the document asks for of the file. Assumes nothing.
use Rattle.std.specs.Prelude.{Err, None, Ok, Result}
use Prim.Native.Nat.{ℕ, ◌/◌, ◌≤◌}
use mathlib.Core.Bool.{Bool, true, false}
use mathlib.Core.List.{List}
use mathlib.Core.Path.{◌≡◌, refl, sym, ap, subst, ◌∙◌}
use native.Mathlib.Omega.{arith}
use borrow.Author.Tests.{le-leb, leb-true}
use lib.Dec.{leb}
use lib.IntN.{ℤ}
use lib.ListN.{length}
use Rattle.rules.specs.Choice.{need, Each}
use Rattle.rules.specs.Files.{verdict, CheckedTold}
use Rattle.rules.specs.Refusals.{Said, says, refuses, no, refusal, and_then, outcome, result_told}
use Rattle.rules.specs.declared.Checked.{Checked}
use Rattle.rules.specs.declared.Flight.{Flight}
use Rattle.rules.specs.declared.Reason.TheVariants as reason
use Rattle.rules.specs.declared.Refusal.{Refusal}
use Rattle.rules.proofs.Inverse.{refuses_says}
use Rattle.track_step.specs.Steps.{step_of}
use Rattle.track_rules.specs.Track.{track_seal, track_of}
use Rattle.track_rules.specs.declared.FixStep.{FixStep}
use Rattle.track_rules.specs.declared.Progress.{Progress}
use Rattle.track_rules.specs.declared.Record.{Record}
use Rattle.track_rules.specs.Stored.{fixes_from}
use Rattle.track_course.specs.Courses.{start_by, fix_size, CourseTold, FlightPlanned}
use Rattle.track.specs.Tracks.{CoursePlanned}
use Rattle.track_course.specs.declared.Course.{Course}
use Rattle.track.proofs.Accepted.{file_short}
use Rattle.track.proofs.Planning.{plan_accepted}
use Rattle.track.proofs.Tracking.{found_all}
use Rattle.summary_reckon.specs.Filled.{filled}
use Rattle.summary_reckon.specs.Reckoned.{count_said, count_after, few_said, few_after, FixesSummed}
use Rattle.summary.specs.Summaries.{FileSummed, FileDated}
use Rattle.summary_reckon.specs.Summary.{runs_of, size_of, updated, fixes_in, flight_summed, summary_said, updated_by, summary_after}
use Rattle.summary.proofs.Telling.{Fits}
use Rattle.summary.proofs.Filling.{filled_is}
use Rattle.summary.proofs.Fitting.{fixes_fit, few_fixes, track_fits}

-- ---- a number of fixes that a file can have

pub few_told : (count old room : ℕ) → count ≤ 16777216 → few_said count old room ≡ count_said count old room
unfolding few_said
few_told count old room h = rw (le-leb count 16777216 h)

pub few_left : (step : Progress → FixStep) (start : Progress) (count old : ℕ) (list : List ℤ) → count ≤ 16777216 → few_after step start count old list ≡ count_after step start count old list
unfolding few_after
few_left step start count old list h = rw (le-leb count 16777216 h)

-- ---- of an accepted file

module _ (file : List ℕ) (old : ℕ) where
  pub said_accepted : (room : ℕ) (f : Flight) → verdict track_seal file None ≡ says f → summary_said file old room ≡ count_said (fixes_in f) old room
  unfolding flight_summed count_said
  said_accepted room f e = rw e (by (leb old (fixes_in f)) (leb (size_of (runs_of (fixes_in f))) room))
    where
      by : (a b : Bool) → and_then (need a (no reason.BadValue 0) λ _. need b (no reason.NoRoom 0) λ _. says f) (λ f. says (runs_of (fixes_in f)))
          ≡ (need a (no reason.BadValue 0) λ _. need b (no reason.NoRoom 0) λ _. says (runs_of (fixes_in f)))
      by true true = refl
      by true false = refl
      by false b = refl

  pub after_accepted : (list : List ℤ) (f : Flight) → verdict track_seal file None ≡ says f
      → summary_after file old list ≡ (need (leb old (fixes_in f)) list λ _. need (leb (size_of (runs_of (fixes_in f))) (length list)) list λ _. updated old (track_of file f.layouts.b) list)
  unfolding flight_summed
  after_accepted list f e = rw e (by (leb old (fixes_in f)) (leb (size_of (runs_of (fixes_in f))) (length list)))
    where
      by : (a b : Bool) → updated_by file old list (need a (no reason.BadValue 0) λ _. need b (no reason.NoRoom 0) λ _. says f) ≡ (need a list λ _. need b list λ _. updated old (track_of file f.layouts.b) list)
      by true true = refl
      by true false = refl
      by false b = refl

-- ---- of a file

module _ (file : List ℕ) (c : Course) (planned : CoursePlanned file (length file) c) (old : ℕ) (list : List ℤ) where
  course : CourseTold (verdict track_seal file None) c
  course = subst (λ (s : Said Flight). CourseTold s c) (track_fits file) planned

  -- the file's own refusal
  pub file_refused_lem : (w : Refusal) → c.answer ≡ Err w → FileSummed file old list (Err w) list
  unfolding result_told flight_summed
  file_refused_lem w g = by (verdict track_seal file None) refl (rw g at course.told)
    where
      by : (s : Said Flight) → verdict track_seal file None ≡ s → ◌≡◌ {A = Said ℕ} (refusal w) (and_then s λ f. says (fixes_in f)) → FileSummed file old list (Err w) list
      by (says f) e h = absurd (refuses_says h)
      by (refuses n l b) e h = record { told = rw e h; numbers = rw e }

  -- an accepted file, with so many fixes, from there on
  record Counted (n : ℕ) : Type 0 where
    pub flight : Flight
    pub accepted : verdict track_seal file None ≡ says flight
    pub count : n ≡ fixes_in flight
    pub start : c.start ≡ start_by (fix_size flight) flight.layouts.b

  counted : (n : ℕ) → c.answer ≡ Ok n → Counted n
  unfolding result_told
  counted n g = by (verdict track_seal file None) refl (rw g at course.told) course
    where
      by : (s : Said Flight) → verdict track_seal file None ≡ s → says n ≡ (and_then s λ f. says (fixes_in f)) → CourseTold s c → Counted n
      by (says f) e h t = record { flight = f; accepted = e; count = cc; start = t.start }
      by (refuses k l b) e h t = absurd (refuses_says (sym h))

  pub count_small : (n : ℕ) → c.answer ≡ Ok n → n ≤ 16777216
  count_small n g =
      let x = counted n g in
      omega (arith, x.count, few_fixes file x.flight x.accepted, file_short track_seal file x.flight x.accepted)

  pub file_summed : (n : ℕ) (r : Result ℕ Refusal) (after : List ℤ) → c.answer ≡ Ok n → FixesSummed (step_of file) c.start n old list r after → FileSummed file old list r after
  unfolding count_after
  file_summed n r after g w = record {
    told = w.told ∙ few_told n old (length list) (count_small n g) ∙ ap (λ (k : ℕ). count_said k old (length list)) x.count ∙ sym (said_accepted file old (length list) f x.accepted);
    numbers =
        w.numbers
        ∙ few_left (step_of file) c.start n old list (count_small n g)
        ∙ by (leb old n) refl (leb (size_of (runs_of n)) (length list)) refl
        ∙ ap (λ (rs : List Record). Put n rs) found
        ∙ ap (λ (k : ℕ). Put k (track_of file f.layouts.b)) x.count
        ∙ sym (after_accepted file old list f x.accepted);
  }
    where
      x : Counted n
      x = counted n g

      f : Flight
      f = x.flight

      Put : ℕ → List Record → List ℤ
      Put k rs = need (leb old k) list λ _. need (leb (size_of (runs_of k)) (length list)) list λ _. updated old rs list

      fixes : List Record
      fixes = fixes_from (step_of file) c.start n

      found : fixes ≡ track_of file f.layouts.b
      found = ap (λ (p : Progress). fixes_from (step_of file) p n) x.start ∙ ap (fixes_from (step_of file) (start_by (fix_size f) f.layouts.b)) x.count ∙ found_all file f x.accepted

      fits : Each Fits fixes
      fits = subst (Each Fits) (sym found) (fixes_fit file f x.accepted)

      by : (a : Bool) → leb old n ≡ a → (b : Bool) → leb (size_of (runs_of n)) (length list) ≡ b
          → (need (leb old n) list λ _. need (leb (size_of (runs_of n)) (length list)) list λ _. filled (step_of file) c.start n (old / 256) list) ≡ Put n fixes
      by false p b q = rw p
      by true p false q = rw (p, q)
      by true p true q = rw (p, q) (filled_is (step_of file) c.start n old list fits (count_small n g) (leb-true old n p) (leb-true (size_of (runs_of n)) (length list) q))

-- ---- with the date, by what the check says

-- a refusal with no value, as one of a number of runs
runless : Said (Unit {0}) → Said ℕ
runless (says u) = refuses 0 0 0
runless (refuses n l b) = refuses n l b

module _ (file : List ℕ) (k : Checked) (t : CheckedTold (verdict track_seal file None) k) (old : ℕ) (list : List ℤ) where
  dated : (r : Result ℕ Refusal) (after : List ℤ) → FileSummed file old list r after → FileDated file old list (record { answer = r; date = k.flight.date }) after
  dated r after w = record { summed = w; date = ap (λ (f : Flight). f.date) t.flight }

  pub dated_refused : (w : Refusal) → k.outcome ≡ Err w → FileDated file old list (record { answer = Err w; date = k.flight.date }) list
  unfolding result_told flight_summed runless
  dated_refused w g = dated (Err w) list (by (verdict track_seal file None) refl (rw g at t.answer))
    where
      by : (s : Said Flight) → verdict track_seal file None ≡ s → refusal w ≡ outcome s → FileSummed file old list (Err w) list
      by (says f) e h = absurd (refuses_says h)
      by (refuses n l b) e h = record { told = rw e (ap runless h); numbers = rw e }

  module _ (c : Course) (accepted : k.outcome ≡ (Ok tt)) (p : FlightPlanned k.flight (length file) c) where
    planned : CoursePlanned file (length file) c
    planned = plan_accepted file (length file) k c t accepted p

    pub dated_short : (w : Refusal) → c.answer ≡ Err w → FileDated file old list (record { answer = Err w; date = k.flight.date }) list
    dated_short w g = dated (Err w) list (file_refused_lem file c planned old list w g)

    pub dated_summed : (n : ℕ) (r : Result ℕ Refusal) (after : List ℤ) → c.answer ≡ Ok n → FixesSummed (step_of file) c.start n old list r after
        → FileDated file old list (record { answer = r; date = k.flight.date }) after
    dated_summed n r after g w = dated r after (file_summed file c planned old list n r after g w)
