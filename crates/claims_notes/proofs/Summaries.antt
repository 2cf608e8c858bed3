-- The summary of two files that are the same but for their notes: the answer is the same, and so is every number of the list afterwards, since a summary looks at no line number. Assumes nothing.
use Rattle.std.specs.Prelude.{None}
use Prim.Native.Nat.{ℕ, zero, suc, ◌-◌, ◌/◌, ◌*◌}
use mathlib.Core.Bool.{Bool, true, false, cond}
use mathlib.Core.List.{List, [], ◌∷◌, ◌++◌, map}
use mathlib.Core.Path.{◌≡◌, refl, sym, ◌∙◌, ap, ap₂}
use lib.Dec.{leb}
use lib.IntN.{ℤ}
use lib.ListN.{length, get_or, take, drop, length-map}
use Rattle.rules.specs.Choice.{need}
use Rattle.rules.specs.Files.{verdict}
use Rattle.rules.specs.Fixes.{plain_time, plain_lat, plain_lon}
use Rattle.rules.specs.Refusals.{says}
use Rattle.rules.specs.declared.Flight.{Flight}
use Rattle.track_rules.specs.Track.{zero_record}
use Rattle.track_rules.specs.Track.{track_seal, track_of}
use Rattle.track_rules.specs.declared.Record.{Record}
use Rattle.summary_fix.specs.Spots.{signed_count, is_marked}
use Rattle.summary_reckon.specs.Summary.{first, last, heights, marked, latitudes, longitudes, one_if_any, told, runs_of, told_runs, size_of, updated, fixes_in, summary_said, summary_after}
use Rattle.summary_reckon.specs.Reckoned.{count_said}
use Rattle.summary.proofs.Summing.{said_accepted, after_accepted}
use Rattle.claims_notes.specs.Notes.{unnumbered}

-- ---- a list of records, and others in their places that have the same to tell

-- what a summary looks at
pub record SameTold (r s : Record) : Type 0 where
  pub day : s.day ≡ r.day
  pub time : plain_time s.fix ≡ plain_time r.fix
  pub height : s.fix.pressure.metres ≡ r.fix.pressure.metres
  pub mark : is_marked s.fix ≡ is_marked r.fix
  pub lat : signed_count (plain_lat s.fix) ≡ signed_count (plain_lat r.fix)
  pub lon : signed_count (plain_lon s.fix) ≡ signed_count (plain_lon r.fix)

module _ (put : Record → Record) (same : (r : Record) → SameTold r (put r)) (none_put : put zero_record ≡ zero_record) where
  abbrev others : List Record → List Record
  others = map put

  take_others : (n : ℕ) (rs : List Record) → others (take n rs) ≡ take n (others rs)
  take_others zero rs = refl
  take_others (suc n) [] = refl
  take_others (suc n) (r ∷ rs) = ap (λ (l : List Record). put r ∷ l) (take_others n rs)

  drop_others : (n : ℕ) (rs : List Record) → others (drop n rs) ≡ drop n (others rs)
  drop_others zero rs = refl
  drop_others (suc n) [] = refl
  drop_others (suc n) (r ∷ rs) = drop_others n rs

  at_others : (rs : List Record) (i : ℕ) → put (get_or rs i zero_record) ≡ get_or (others rs) i zero_record
  at_others [] i = none_put
  at_others (r ∷ rs) zero = refl
  at_others (r ∷ rs) (suc i) = at_others rs i

  -- a number that each fix has, of all
  numbers_others : (tell : Record → ℤ) → ((r : Record) → tell (put r) ≡ tell r) → (rs : List Record) → map tell (others rs) ≡ map tell rs
  numbers_others tell h [] = refl
  numbers_others tell h (r ∷ rs) = ap₂ (λ (z : ℤ) (l : List ℤ). z ∷ l) (h r) (numbers_others tell h rs)

  marked_others : (rs : List Record) → others (marked rs) ≡ marked (others rs)
  marked_others [] = refl
  marked_others (r ∷ rs) = rw (same r).mark (by (is_marked r.fix) (marked_others rs))
    where
      by : (b : Bool) → others (marked rs) ≡ marked (others rs) → others (cond b (r ∷ marked rs) (marked rs)) ≡ cond b (put r ∷ marked (others rs)) (marked (others rs))
      by true e = ap (λ (l : List Record). put r ∷ l) e
      by false e = e

  any_others : (rs : List Record) → one_if_any (others rs) ≡ one_if_any rs
  any_others [] = refl
  any_others (r ∷ rs) = refl

  -- a number of those fixes that are marked
  of_marked : (tell : Record → ℤ) → ((r : Record) → tell (put r) ≡ tell r) → (rs : List Record) → map tell (marked (others rs)) ≡ map tell (marked rs)
  of_marked tell h rs = ap (map tell) (sym (marked_others rs)) ∙ numbers_others tell h (marked rs)

  -- ---- the numbers of a summary

  told_others : (rs : List Record) → told rs ≡ told (others rs)
  unfolding told
  told_others rs =
      let n : length (others rs) ≡ length rs = length-map rs put in
      let a : first (others rs) ≡ put (first rs) = sym (at_others rs 0) in
      let b : get_or (others rs) (length rs - 1) zero_record ≡ put (last rs) = sym (at_others rs (length rs - 1)) in
      let h : heights (others rs) ≡ heights rs = numbers_others _ (λ r. (same r).height) rs in
      let m : one_if_any (marked (others rs)) ≡ one_if_any (marked rs) = ap one_if_any (sym (marked_others rs)) ∙ any_others (marked rs) in
      let x : latitudes (others rs) ≡ latitudes rs = of_marked _ (λ r. (same r).lat) rs in
      let y : longitudes (others rs) ≡ longitudes rs = of_marked _ (λ r. (same r).lon) rs in
      rw (n, a, b, h, m, x, y, (same (first rs)).day, (same (first rs)).time, (same (last rs)).day, (same (last rs)).time)

  runs_others : (n : ℕ) (rs : List Record) → told_runs n rs ≡ told_runs n (others rs)
  unfolding told_runs
  runs_others zero rs = refl
  runs_others (suc n) rs =
      ap₂ (λ (x y : List ℤ). x ++ y) (told_others (take 256 rs) ∙ ap told (take_others 256 rs)) (runs_others n (drop 256 rs) ∙ ap (told_runs n) (drop_others 256 rs))

  -- the list afterwards, made afresh or brought up to date
  pub others_summed : (old : ℕ) (list : List ℤ) (rs : List Record) → updated old rs list ≡ updated old (map put rs) list
  unfolding updated
  others_summed old list rs =
      let n : length (others rs) ≡ length rs = length-map rs put in
      let k = runs_of (length rs) - old / 256 in
      let later : told_runs k (drop (256 * (old / 256)) (others rs)) ≡ told_runs k (drop (256 * (old / 256)) rs) =
      sym (runs_others k (drop (256 * (old / 256)) rs) ∙ ap (told_runs k) (drop_others (256 * (old / 256)) rs)) in
      rw (n, sym (told_others rs), later)

-- the records of a track with their line numbers, or without them
pub unnumbered_summed : (old : ℕ) (list : List ℤ) (rs : List Record) → updated old rs list ≡ updated old (map unnumbered rs) list
unnumbered_summed = others_summed unnumbered (λ r. record { day = refl; time = refl; height = refl; mark = refl; lat = refl; lon = refl }) refl

-- ---- two files

module _ (file : List ℕ) (f : Flight) (other : List ℕ) (g : Flight) (p : verdict track_seal file None ≡ says f) (q : verdict track_seal other None ≡ says g) (counts : fixes_in g ≡ fixes_in f) (old : ℕ) where
  pub answers_alike : (room : ℕ) → summary_said other old room ≡ summary_said file old room
  answers_alike room = said_accepted other old room g q ∙ ap (λ (n : ℕ). count_said n old room) counts ∙ sym (said_accepted file old room f p)

  pub lists_alike : (list : List ℤ) → updated old (track_of other g.layouts.b) list ≡ updated old (track_of file f.layouts.b) list → summary_after other old list ≡ summary_after file old list
  lists_alike list e =
      after_accepted other old list g q
      ∙ ap₂ (λ (n : ℕ) (l : List ℤ). need (leb old n) list λ _. need (leb (size_of (runs_of n)) (length list)) list λ _. l) counts e
      ∙ sym (after_accepted file old list f p)
