-- Lines passed one after the other up to a B line: from each place on the lines that are left lead to the same, and the counts stay small. Assumes nothing.
use Rattle.std.specs.Prelude.{None, Option, Some}
use Prim.Native.Nat.{ℕ, ◌+◌, ◌-◌, ◌≤◌, ◌<◌}
use Prim.Native.Char.{code}
use mathlib.Core.Bool.{false}
use mathlib.Core.List.{List, [], ◌∷◌, ◌++◌}
use mathlib.Core.Path.{◌≡◌, refl, sym, ◌∙◌}
use native.Mathlib.Omega.{arith}
use borrow.Author.Tests.{eq-eqb, ne_eqb}
use lib.Dec.{eqb}
use lib.ListN.{length, get_or, drop, length-drop, drop_of_length-le}
use lib.Seq.{get_or-drop, length-take-le}
use Rattle.rules.specs.Choice.{part}
use Rattle.rules.specs.Order.{Passing, onward, next_day, back, passing}
use Rattle.rules.specs.Split.{Lines, end, broken, line, lines_of}
use Rattle.rules.specs.Walk.{Walk, time_on, day_after, walked_by}
use Rattle.rules_laws.proofs.Splitting.{cut}
use Rattle.file_lines.specs.Ends.{ended_at}
use Rattle.file_lines.specs.declared.scan.Ended.TheVariants as ended
use Rattle.file_lines.proofs.Cuts.{torn}
use Rattle.file_lines.proofs.Cuts as cuts
use Rattle.track_step.specs.Steps.{walk_of, behind, skipped, Few, Spare}
use Rattle.track_rules.specs.declared.Progress.{Progress}

-- ---- one line more

day_more : (a : Passing) (day : ℕ) → day_after a day ≤ day + 1
day_more onward day = omega arith
day_more next_day day = omega arith
day_more back day = omega arith

pub walk_lines : (o : Option ℕ) (w : Walk) → (walked_by o w).lines ≡ w.lines + 1
walk_lines None w = refl
walk_lines (Some t) w = refl

one_day : (o : Option ℕ) (w : Walk) → (walked_by o w).day ≤ w.day + 1
one_day None w = omega arith
one_day (Some t) w = day_more (passing w.clock t) w.day

-- a line that was found stands inside the file with its ending
pub line_fits : (f : List ℕ) (at e : ℕ) → ended.At e ≡ ended_at at (lines_of (drop at f)) → (at ≤ e) × (e + 2 ≤ length f)
line_fits f at e q = let c = cuts.cut f at e q in (c.start, c.fits)

-- ---- a B line by the byte at its place

fix_first : (t r : List ℕ) → eqb (get_or (t ++ 13 ∷ 10 ∷ r) 0 0) (code "B") ≡ eqb (get_or t 0 0) (code "B")
fix_first [] r = refl
fix_first (b ∷ t) r = refl

fix_at_lem : (f : List ℕ) (at : ℕ) (t : List ℕ) (ls : Lines) → lines_of (drop at f) ≡ line t ls → eqb (get_or f at 0) (code "B") ≡ eqb (get_or t 0 0) (code "B")
fix_at_lem f at t ls e =
    let c = cut (drop at f) t ls e in
    let n : at + 0 ≡ at = omega arith in
    let g : get_or (drop at f) 0 0 ≡ get_or f at 0 = rw n at (get_or-drop at f 0 0) in
    rw (← g, c.bytes) (fix_first t c.rest)

module _ (f : List ℕ) (p₀ : Progress) where
  abbrev goal : Progress
  goal = skipped (lines_of (drop p₀.at f)) p₀

  -- the lines from here on lead where all lead; so many bytes are passed, and no more lines and days
  pub record Going (p : Progress) : Type 0 where
    pub short : length f ≤ 16777216
    pub seen : ℕ
    pub below : seen ≤ p.at
    pub inside : seen ≤ length f
    pub lines : p.lines ≤ 16777216 + seen
    pub day : p.day ≤ 16777216 + seen
    pub is : skipped (lines_of (drop p.at f)) p ≡ goal

  pub going_first : Few (length f) p₀ → Going p₀
  going_first w = record { short = w.bytes; seen = 0; below = omega arith; inside = omega arith; lines = omega (arith, w.lines); day = omega (arith, w.day); is = refl }

  module _ (p : Progress) (w : Going p) where
    pub going_spare : Spare p
    going_spare = record { lines = omega (arith, w.lines, w.inside, w.short); day = omega (arith, w.day, w.inside, w.short) }

    stays : (k : Lines) → lines_of (drop p.at f) ≡ k → get_or f p.at 0 ≡ code "B" → skipped k p ≡ p
    unfolding skipped
    stays end e b = refl
    stays (broken n) e b = refl
    stays (line t ls) e b = rw (← fix_at_lem f p.at t ls e, eq-eqb (get_or f p.at 0) (code "B") b)

    pub going_fix : get_or f p.at 0 ≡ code "B" → p ≡ goal
    going_fix b = sym (stays (lines_of (drop p.at f)) refl b) ∙ w.is

    pub going_end : length f ≤ p.at → p ≡ goal
    unfolding lines_of skipped
    going_end h = rw (drop_of_length-le f h) at w.is

    pub going_torn : (e : ℕ) → p.at < length f → ended.Broken e ≡ ended_at p.at (lines_of (drop p.at f)) → p ≡ goal
    unfolding skipped
    going_torn e h q = let t = torn f p.at e q h in rw t.lines at w.is

    module _ (e : ℕ) (q : ended.At e ≡ ended_at p.at (lines_of (drop p.at f))) (other : get_or f p.at 0 ≡ code "B" → ⊥) where
      abbrev text : List ℕ
      text = part p.at e f

      next_is : skipped (lines_of (drop (e + 2) f)) (behind (time_on text) p (e + 2)) ≡ goal
      unfolding skipped
      next_is =
          let c = cuts.cut f p.at e q in
          let ls = lines_of (drop (e + 2) f) in
          let n : length text ≡ e - p.at = length-take-le (e - p.at) (drop p.at f) (omega (arith, c.fits, length-drop p.at f)) in
          let m : p.at + length text + 2 ≡ e + 2 = omega (arith, c.start) in
          let d : eqb (get_or text 0 0) (code "B") ≡ false = sym (fix_at_lem f p.at text ls c.lines) ∙ ne_eqb (get_or f p.at 0) (code "B") other in
          let s : skipped (line text ls) p ≡ goal = rw c.lines at w.is in
          rw (d, m) at s

      pub going_next : (r : Progress) → r ≡ behind (time_on text) p (e + 2) → Going r
      going_next r g =
          let c = cuts.cut f p.at e q in
          rw g (record {
            short = w.short;
            seen = e + 2;
            below = omega arith;
            inside = c.fits;
            lines = omega (arith, walk_lines (time_on text) (walk_of p), w.lines, w.below, c.start);
            day = omega (arith, one_day (time_on text) (walk_of p), w.day, w.below, c.start);
            is = next_is;
          })
