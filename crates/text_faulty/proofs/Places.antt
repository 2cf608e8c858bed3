-- The lines of a file, one after the other, by the cut of the file: the line behind the next CR LF, none behind a break, and the text of the line at a place. Assumes nothing.
use Prim.Native.Nat.{ℕ, suc, ◌+◌, ◌-◌, ◌*◌, ◌^◌, ◌≤◌, ◌<◌}
use mathlib.Core.Bool.{Bool, true, false}
use mathlib.Core.List.{List, []}
use mathlib.Core.Path.{◌≡◌, refl, sym, ap, ◌∙◌}
use native.Mathlib.Omega.{arith}
use borrow.Author.Tests.{eq-eqb, ne_eqb, leb-true, leb-false}
use lib.Dec.{leb}
use lib.ListN.{length, take, drop, length-drop, drop_of_length-le}
use lib.Seq.{drop-drop, length-take-le}
use mir.Syntax.{w64}
use mir.Val.{Fits}
use Rattle.rules.specs.Split.{Lines, end, broken, line, lines_of}
use Rattle.file_lines.specs.Ends.{ended_at}
use Rattle.file_lines.specs.declared.scan.Ended.{Ended}
use Rattle.file_lines.specs.declared.scan.Ended.TheVariants as ended
use Rattle.file_lines.proofs.Cuts.{cut, torn}
use Rattle.text_faulty.specs.Faulty.{text_behind, text_of, LineStartGiven, TextEndGiven}

-- ---- from line to line

-- `left` lines more lead from the place `at` to the line behind the first `lines` lines
pub record Walked (f : List ℕ) (lines at left : ℕ) : Type 0 where
  pub within : at ≤ length f
  pub same : text_behind lines (lines_of f) f ≡ text_behind left (lines_of (drop at f)) (drop at f)

pub walk_start : (f : List ℕ) (lines : ℕ) → Walked f lines 0 (lines - 0)
walk_start f lines = let z : lines - 0 ≡ lines = omega arith in record { within = omega arith; same = rw z }

pub walk_end : (f : List ℕ) (lines at n : ℕ) → Walked f lines at (lines - n) → lines ≤ n → LineStartGiven f lines at
walk_end f lines at n w h = let e : lines - n ≡ 0 = omega arith in record { within = w.within; same = rw e at w.same }

behind : (k : ℕ) (t : List ℕ) (ls : Lines) (l : List ℕ) → text_behind (suc k) (line t ls) l ≡ text_behind k ls (drop (length t + 2) l)
unfolding text_behind
behind k t ls l = refl

none_behind : (k at e : ℕ) (ls : Lines) (l : List ℕ) → ended_at at ls ≡ ended.Broken e → text_behind (suc k) ls l ≡ []
unfolding text_behind ended_at
none_behind k at e end l q = refl
none_behind k at e (broken n) l q = refl
none_behind k at e (line t ls) l q = let z : ◌≡◌ {A = ℕ} 0 1 = cc in absurd (omega arith)

no_text : (k : ℕ) (l : List ℕ) (i : ℕ) → length l ≤ i → text_behind k (lines_of (drop i l)) (drop i l) ≡ []
unfolding text_behind lines_of
no_text k l i h = rw (drop_of_length-le l h)

-- how the line at a place ends
module _ (f : List ℕ) (at e : ℕ) (r : Ended) (q : r ≡ ended_at at (lines_of (drop at f))) where
  pub fits : length f * 1 < 2 ^ 63 → r ≡ ended.At e → Fits w64 (e + 2)
  fits h g = omega (arith, (cut f at e (sym g ∙ q)).fits)

  module _ (lines n : ℕ) (w : Walked f lines at (lines - n)) (h : n < lines) where
    abbrev left : ℕ
    left = lines - (n + 1)

    one_less : text_behind lines (lines_of f) f ≡ text_behind (suc left) (lines_of (drop at f)) (drop at f)
    one_less = let one : lines - n ≡ suc (lines - (n + 1)) = omega arith in w.same ∙ ap (λ (k : ℕ). text_behind k (lines_of (drop at f)) (drop at f)) one

    -- with CR LF: on to the next
    pub walk_on : r ≡ ended.At e → Walked f lines (e + 2) (lines - (n + 1))
    walk_on g =
        let c = cut f at e (sym g ∙ q) in
        let t = take (e - at) (drop at f) in
        let long : length t ≡ e - at = length-take-le (e - at) (drop at f) (omega (arith, c.start, c.fits, length-drop at f)) in
        let place : at + (e - at + 2) ≡ e + 2 = omega (arith, c.start) in
        record {
          within = c.fits;
          same = one_less ∙ rw c.lines (behind left t (lines_of (drop (e + 2) f)) (drop at f) ∙ rw (long, drop-drop (e - at + 2) at f, place));
        }

    -- not so: none is left
    pub walk_none : r ≡ ended.Broken e → LineStartGiven f lines (length f)
    walk_none g = record {
      within = omega arith;
      same = one_less ∙ none_behind left at e (lines_of (drop at f)) (drop at f) (sym q ∙ g) ∙ sym (no_text 0 f (length f) (omega arith));
    }

-- ---- the text of the line at a place

module _ (f : List ℕ) (at e : ℕ) (r : Ended) (q : r ≡ ended_at at (lines_of (drop at f))) where
  pub whole_text : r ≡ ended.At e → TextEndGiven f at e
  unfolding text_behind
  whole_text g = let c = cut f at e (sym g ∙ q) in record { start = c.start; within = omega (arith, c.fits); text = rw c.lines }

  pub broken_text : at ≤ length f → r ≡ ended.Broken e → TextEndGiven f at e
  unfolding text_behind ended_at lines_of
  broken_text h g = by (leb (length f) at) refl
    where
      by : (t : Bool) → leb (length f) at ≡ t → TextEndGiven f at e
      by true x =
          let none : drop at f ≡ [] = drop_of_length-le f (leb-true (length f) at x) in
          let z = rw none at q in
          let same : e ≡ at = cc in
          let size : e - at ≡ 0 = omega arith in
          record { start = omega arith; within = omega arith; text = rw (size, none) }
      by false x = let c = torn f at e (sym g ∙ q) (leb-false (length f) at x) in record { start = c.start; within = c.within; text = rw c.lines }

-- ---- the text of a line by its number

pub text_zero : (f : List ℕ) (n : ℕ) → n ≡ 0 → [] ≡ text_of f n
unfolding text_of
text_zero f n e = rw (eq-eqb n 0 e)

pub text_found : (f : List ℕ) (n at e : ℕ) → LineStartGiven f (n - 1) at → TextEndGiven f at e → (n ≡ 0 → ⊥) → take (e - at) (drop at f) ≡ text_of f n
unfolding text_of
text_found f n at e s t z = rw (ne_eqb n 0 z) (t.text ∙ sym s.same)
