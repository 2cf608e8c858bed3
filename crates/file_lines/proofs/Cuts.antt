-- How the first line of a file lies in it, or the text that no CR LF ends. Assumes nothing.
use Prim.Native.Nat.{ℕ, suc, suc-le-suc, ◌+◌, ◌-◌, ◌≤◌, ◌<◌}
use mathlib.Core.List.{List, [], ◌∷◌}
use mathlib.Core.Path.{◌≡◌, refl, sym, ap, ◌∙◌}
use native.Mathlib.Omega.{arith}
use lib.Dec.{eqb}
use lib.ListN.{length, take, drop, length-drop}
use Rattle.rules.specs.Split.{Lines, end, broken, line, text, lines_of, after_cr}
use Rattle.rules_laws.proofs.Chains.{by_cond}
use Rattle.rules_laws.proofs.Splitting.{none_left, line_at}
use Rattle.file_lines.specs.Ends.{ended_at}
use Rattle.file_lines.specs.declared.scan.Ended.TheVariants as ended

-- ---- a line

-- a line that ends at e lies between at and e, its CR LF is in the file, and the lines after it are those of what is left
pub record Cut (f : List ℕ) (at e : ℕ) : Type 0 where
  pub start : at ≤ e
  pub fits : e + 2 ≤ length f
  pub lines : lines_of (drop at f) ≡ line (take (e - at) (drop at f)) (lines_of (drop (e + 2) f))

cut_by : (f : List ℕ) (at e : ℕ) (k : Lines) → lines_of (drop at f) ≡ k → ended_at at k ≡ ended.At e → Cut f at e
unfolding ended_at
cut_by f at e end g q = let z : ◌≡◌ {A = ℕ} 0 1 = cc in absurd (omega arith)
cut_by f at e (broken n) g q = let z : ◌≡◌ {A = ℕ} 0 1 = cc in absurd (omega arith)
cut_by f at e (line t ls) g q =
    let w : at + length t ≡ e = cc in
    let p = line_at f at t ls g in
    record { start = omega arith; fits = omega (arith, p.inside); lines = rw (← w) (rw (p.text, p.after) g) }

pub cut : (f : List ℕ) (at e : ℕ) → ended.At e ≡ ended_at at (lines_of (drop at f)) → Cut f at e
cut f at e q = cut_by f at e (lines_of (drop at f)) refl (sym q)

-- ---- text that no CR LF ends

-- it is no longer than the bytes
abbrev Short : ℕ → Lines → Type 0
Short size end = Unit {0}
Short size (broken n) = n ≤ size
Short size (line t ls) = Unit {0}

short_text : (b size : ℕ) (k : Lines) → Short size k → Short (suc size) (text b k)
unfolding text
short_text b size end h = omega arith
short_text b size (broken n) h = suc-le-suc h
short_text b size (line t ls) h = tt

short_cr : (r : List ℕ) → Short (suc (length r)) (after_cr r)
unfolding after_cr
short_cr [] = omega arith
short_cr (c ∷ r) = by_cond (Short (suc (suc (length r)))) (eqb c 10) _ _ tt (omega arith)

short : (l : List ℕ) → Short (length l) (lines_of l)
unfolding lines_of
short [] = tt
short (b ∷ r) =
    by_cond (Short (suc (length r))) (eqb b 13) _ _ (short_cr r) (by_cond (Short (suc (length r))) (eqb b 10) _ _ (omega arith) (short_text b (length r) (lines_of r) (short r)))

-- bytes are left, and no CR LF ends the line: text up to e, which is in the file
pub record Torn (f : List ℕ) (at e : ℕ) : Type 0 where
  pub start : at ≤ e
  pub within : e ≤ length f
  pub lines : lines_of (drop at f) ≡ broken (e - at)

torn_by : (f : List ℕ) (at e : ℕ) (k : Lines) → lines_of (drop at f) ≡ k → Short (length (drop at f)) k → at < length f → ended_at at k ≡ ended.Broken e → Torn f at e
unfolding ended_at
torn_by f at e end g s h q = absurd (omega (arith, simp length-drop at (ap length (none_left (drop at f) g))))
torn_by f at e (broken n) g s h q =
    let w : at + n ≡ e = cc in
    let v : n ≡ e - at = omega arith in
    record { start = omega arith; within = omega (arith, s, length-drop at f); lines = g ∙ ap broken v }
torn_by f at e (line t ls) g s h q = let z : ◌≡◌ {A = ℕ} 0 1 = cc in absurd (omega arith)

pub torn : (f : List ℕ) (at e : ℕ) → ended.Broken e ≡ ended_at at (lines_of (drop at f)) → at < length f → Torn f at e
torn f at e q h = torn_by f at e (lines_of (drop at f)) refl (short (drop at f)) h (sym q)
