-- The fixes of an accepted file fit: each number that is told of one is a number of the list, and there are no more fixes than bytes. Assumes nothing.
use Rattle.std.specs.Prelude.{None}
use Prim.Native.Nat.{ℕ, ◌+◌, ◌≤◌}
use Prim.Native.Char.{code}
use mathlib.Core.Bool.{Bool, true, false, ◌&&◌, cond}
use mathlib.Core.List.{List, [], ◌∷◌, ◌++◌}
use mathlib.Core.Path.{◌≡◌, refl, ap}
use native.Mathlib.Omega.{arith}
use borrow.Author.Tests.{le-leb, leb-true, eqb-true, eqb-false}
use lib.Dec.{eqb, leb}
use lib.ListN.{length, get_or, length-append}
use Rattle.rules.specs.Choice.{on, Each}
use Rattle.rules.specs.Degrees.{is_position, is_latitude, is_longitude}
use Rattle.rules.specs.Families.{count_of}
use Rattle.rules.specs.Fields.{most_latitude, most_longitude}
use Rattle.rules.specs.Files.{verdict}
use Rattle.rules.specs.Fixes.{plain_time, plain_lat, plain_lon, fields_of}
use Rattle.rules.specs.Limits.{is_time, good_fix_fields, is_fine, good_fix}
use Rattle.rules.specs.Reads.{fix_said}
use Rattle.rules.specs.Refusals.{Said, says, refuses}
use Rattle.rules.specs.Split.{Lines, end, broken, line, lines_of}
use Rattle.rules.specs.Walk.{Walk, set_out, time_on, walked}
use Rattle.rules.specs.declared.Family.TheVariants as family
use Rattle.rules.specs.declared.Fix.{Fix}
use Rattle.rules.specs.declared.Flight.{Flight}
use Rattle.rules.specs.declared.Layout.{Layout}
use Rattle.rules.specs.declared.Layouts.{Layouts}
use Rattle.rules.proofs.Inverse.{false_true, need_inv, and_inv}
use Rattle.rules_laws.proofs.Splitting.{cut, texts_of}
use Rattle.rules_trips.proofs.Fixes.{fix_trip}
use Rattle.rules_trips.proofs.LineTrip.{line_limits}
use Rattle.grammar.specs.Grammar.{beginning}
use Rattle.grammar.specs.Readings.{ReadsLine, ReadsFix}
use Rattle.grammar.proofs.EachLine.{fix_alone}
use Rattle.track_rules.specs.Track.{track_seal, record_of, records_of, track_from, track_of, flight_tracked}
use Rattle.track_step.proofs.Going.{walk_lines}
use Rattle.track.proofs.Accepted.{file_short, texts_read, letters_counted}
use Rattle.track.proofs.Stepping.{other_said, walk_within}
use Rattle.summary.proofs.Telling.{Fits}

-- ---- each fix

-- what was read is within its limits
fix_fits : (layout : Layout) (t : List ℕ) (f : Fix) (w : Walk) → fix_said t layout ≡ says f → w.day ≤ 2147483647 → Fits (record_of w f)
unfolding good_fix is_fine good_fix_fields is_position fields_of
fix_fits layout t f w e day =
    let g = need_inv (is_fine f) false true _ false_true (line_limits (fix_trip layout) t f e) in
    let both = and_inv (leb f.time.decimals 3 && leb f.lat.decimals 4) (leb f.lon.decimals 4) g.0 in
    let few = and_inv (leb f.time.decimals 3) (leb f.lat.decimals 4) both.0 in
    let v = need_inv (good_fix_fields (fields_of f)) false true _ false_true g.1 in
    let x = need_inv (is_time (plain_time f)) false true _ false_true v.0 in
    let a = need_inv (is_latitude (plain_lat f)) false true _ false_true x.1 in
    let o = need_inv (is_longitude (plain_lon f)) false true _ false_true a.1 in
    record {
      day = day;
      time = omega (arith, leb-true (plain_time f) 86400 x.0);
      time_few = omega (arith, leb-true f.time.decimals 3 few.0);
      lat = omega (arith, leb-true (plain_lat f).count most_latitude (and_inv (leb (plain_lat f).count most_latitude) _ a.0).0);
      lat_few = leb-true f.lat.decimals 4 few.1;
      lon = omega (arith, leb-true (plain_lon f).count most_longitude (and_inv (leb (plain_lon f).count most_longitude) _ o.0).0);
      lon_few = leb-true f.lon.decimals 4 both.1;
    }

-- the fixes of lines that read, behind a walk that has passed no more lines than an i32 can count
fits_from : (layouts : Layouts) (k : Lines) (w : Walk) → Each (ReadsLine layouts) (texts_of k) → w.day ≤ w.lines → w.lines + length (texts_of k) ≤ 2147483647 → Each Fits (track_from layouts.b w k)
unfolding track_from on
fits_from layouts end w r d n = tt
fits_from layouts (broken b) w r d n = tt
fits_from layouts (line t ls) w r d n =
    let more = walk_lines (time_on t) w in
    let within = walk_within (time_on t) w d in
    by (eqb (get_or t 0 0) (code "B")) refl within (omega (arith, more, within, n)) (fits_from layouts ls (walked t w) r.1 within (omega (arith, more, n)))
  where
    by : (b : Bool) → eqb (get_or t 0 0) (code "B") ≡ b → (walked t w).day ≤ (walked t w).lines → (walked t w).day ≤ 2147483647 → Each Fits (track_from layouts.b (walked t w) ls)
        → Each Fits (records_of (walked t w) (fix_said t layouts.b) ++ track_from layouts.b (walked t w) ls)
    by true e _ day later =
        let x : ReadsFix layouts.b t = r.0.columned family.B (eqb-true (get_or t 0 0) (code "B") e) in
        let said : fix_said t layouts.b ≡ says x.fix = fix_alone t layouts.b _ x.reads in
        rw said (fix_fits layouts.b t x.fix (walked t w) said day, later)
    by false e _ day later = rw (other_said layouts.b t (eqb-false (get_or t 0 0) (code "B") e) (walked t w)) later

-- ---- no more lines than bytes, and no more fixes than lines

lines_within : (k : Lines) (l : List ℕ) → lines_of l ≡ k → length (texts_of k) ≤ length l
lines_within end l e = omega arith
lines_within (broken n) l e = omega arith
lines_within (line t ls) l e =
    let c = cut l t ls e in
    omega (arith, lines_within ls c.rest c.lines, ap length c.bytes, length-append t (13 ∷ 10 ∷ c.rest))

beginning_within : (x : ℕ) (ls : List (List ℕ)) → beginning x ls ≤ length ls
unfolding beginning
beginning_within x [] = omega arith
beginning_within x (l ∷ ls) = by (eqb (get_or l 0 0) x) (beginning_within x ls)
  where
    by : (b : Bool) → beginning x ls ≤ length ls → cond b 1 0 + beginning x ls ≤ length (l ∷ ls)
    by true h = omega (arith, h)
    by false h = omega (arith, h)

module _ (file : List ℕ) (f : Flight) (accepted : verdict track_seal file None ≡ says f) where
  pub fixes_fit : Each Fits (track_of file f.layouts.b)
  fixes_fit =
      fits_from f.layouts (lines_of file) set_out (texts_read track_seal file f accepted) (omega arith) (omega (arith, lines_within (lines_of file) file refl, file_short track_seal file f accepted))

  pub few_fixes : count_of family.B f.counts ≤ length file
  few_fixes = omega (arith, letters_counted track_seal file f accepted family.B, beginning_within (code "B") (texts_of (lines_of file)), lines_within (lines_of file) file refl)

-- a list of as many records as the file has bytes is never too short for its track
pub track_fits : (file : List ℕ) → flight_tracked file (length file) ≡ verdict track_seal file None
unfolding flight_tracked
track_fits file = by (verdict track_seal file None) refl
  where
    by : (s : Said Flight) → verdict track_seal file None ≡ s → flight_tracked file (length file) ≡ verdict track_seal file None
    by (says f) e = rw (e, le-leb (count_of family.B f.counts) (length file) (few_fixes file f e))
    by (refuses n l b) e = rw e
