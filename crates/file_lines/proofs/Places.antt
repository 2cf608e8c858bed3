-- Laws of the places in a file where CR LF stands and where a line ends, a byte at a time: what the scans of a file use. Assumes nothing.
use Rattle.std.specs.Prelude.{Err, None, Ok, Option, Result, Some}
use Prim.Native.Nat.{ℕ, zero, suc, ◌+◌, ◌-◌, ◌*◌, ◌^◌, ◌≤◌, ◌<◌}
use mathlib.Core.Bool.{Bool, true, false, cond}
use mathlib.Core.List.{List, [], ◌∷◌}
use mathlib.Core.Path.{◌≡◌, refl, ap, ◌∙◌}
use native.Mathlib.Nat.{add-zero}
use native.Mathlib.Omega.{arith}
use borrow.Author.Tests.{ne_eqb, eqb-true, eqb-false}
use lib.Dec.{eqb, leb}
use lib.ListN.{length, get_or, take, drop, drop_of_length-le, length-take, length-drop}
use lib.Seq.{get_or-take, get_or-drop}
use mir.Syntax.{w64}
use mir.Val.{Fits}
use Rattle.rules.specs.Choice.{given, on, part}
use Rattle.rules.specs.Refusals.{Said, says, refuses, no, refusal, result_told}
use Rattle.rules.specs.declared.Bounds.{Bounds}
use Rattle.rules.specs.Split.{Lines, end, broken, line, text, lines_of, after_cr, begins_crlf, first_crlf, is_start, bounds_of, line_text}
use Rattle.rules.specs.declared.Reason.{Reason}
use Rattle.rules.specs.declared.Reason.TheVariants.{BadValue}
use Rattle.rules.specs.declared.Refusal.{Refusal}
use Rattle.rules_laws.proofs.Chains.{by_cond, by_need}
use Rattle.rules_laws.proofs.LineEnds.{rest}
use Rattle.file_lines.specs.Ends.{ended_at, unplaced, is_inside}
use Rattle.file_lines.specs.declared.scan.Ended.TheVariants as ended

-- ---- the first CR LF from a place on

module _ (f : List ℕ) (i : ℕ) where
  pub first_here : i < length f → begins_crlf (drop i f) ≡ true → Some i ≡ first_crlf i (drop i f)
  unfolding first_crlf
  first_here h e = let e' = rw rest at e in rw (rest f i h, e')

  pub first_next : i < length f → begins_crlf (drop i f) ≡ false → first_crlf i (drop i f) ≡ first_crlf (i + 1) (drop (i + 1) f)
  unfolding first_crlf
  first_next h e = let e' = rw rest at e in rw (rest f i h, e')

  pub first_none : length f ≤ i → None ≡ first_crlf i (drop i f)
  unfolding first_crlf
  first_none h = rw (drop_of_length-le f h)

-- ---- where a line ends

ended_text : (i b : ℕ) (ls : Lines) → ended_at i (text b ls) ≡ ended_at (i + 1) ls
unfolding ended_at text
ended_text i b end = refl
ended_text i b (broken n) = ap ended.Broken (omega arith)
ended_text i b (line t ls) = ap ended.At (omega arith)

-- after a CR the line ends as the next byte says
cr_lf : (i b : ℕ) (l : List ℕ) (x : Bool) → eqb b 10 ≡ x → cond x (ended.At i) (ended.Broken i) ≡ ended_at i (cond (eqb b 10) (line [] (lines_of l)) (broken 0))
unfolding ended_at
cr_lf i b l true e = rw (e, add-zero i)
cr_lf i b l false e = rw (e, add-zero i)

cr_by : (i : ℕ) (l : List ℕ) (x : Bool) → begins_crlf (13 ∷ l) ≡ x → cond x (ended.At i) (ended.Broken i) ≡ ended_at i (after_cr l)
unfolding begins_crlf after_cr ended_at
cr_by i [] x e = rw (← e, add-zero i)
cr_by i (b ∷ l) x e = cr_lf i b l x e

module _ (f : List ℕ) (i : ℕ) where
  pub past_end : length f ≤ i → ended.Broken i ≡ ended_at i (lines_of (drop i f))
  unfolding ended_at lines_of
  past_end h = rw drop_of_length-le refl

  pub at_text : i < length f → (get_or f i 0 ≡ 13 → ⊥) → (get_or f i 0 ≡ 10 → ⊥) → ended_at i (lines_of (drop i f)) ≡ ended_at (i + 1) (lines_of (drop (i + 1) f))
  unfolding lines_of
  at_text h n13 n10 = rw rest (simp (ne_eqb _ _ n13, ne_eqb _ _ n10, ended_text))

  pub at_lf : i < length f → get_or f i 0 ≡ 10 → ended.Broken i ≡ ended_at i (lines_of (drop i f))
  unfolding lines_of ended_at
  at_lf h e = rw (rest, e, add-zero i)

  at_cr : i < length f → get_or f i 0 ≡ 13 → (x : Bool) → begins_crlf (drop i f) ≡ x → cond x (ended.At i) (ended.Broken i) ≡ ended_at i (lines_of (drop i f))
  unfolding lines_of
  at_cr h e x b = let b' = rw (rest f i h, e) at b in rw (rest f i h, e) (cr_by i (drop (i + 1) f) x b')

  pub at_crlf : i < length f → get_or f i 0 ≡ 13 → begins_crlf (drop i f) ≡ true → ended.At i ≡ ended_at i (lines_of (drop i f))
  at_crlf h e b = at_cr h e true b

  pub at_cr_other : i < length f → get_or f i 0 ≡ 13 → begins_crlf (drop i f) ≡ false → ended.Broken i ≡ ended_at i (lines_of (drop i f))
  at_cr_other h e b = at_cr h e false b

-- ---- bytes of which none is CR or LF

-- those before i and the one at i are those before the next
pub inside_more : (l : List ℕ) (i : ℕ) → ((k : ℕ) → k < i → is_inside (get_or l k 0) ≡ true) → is_inside (get_or l i 0) ≡ true → (k : ℕ) → k < i + 1 → is_inside (get_or l k 0) ≡ true
inside_more l i before here k h = by (eqb k i) refl
  where
    by : (t : Bool) → eqb k i ≡ t → is_inside (get_or l k 0) ≡ true
    by true e = let q : k ≡ i = eqb-true k i e in rw q here
    by false e = let q = eqb-false k i e in before k (omega (arith, q))

inside_not : (b n : ℕ) → is_inside n ≡ false → is_inside b ≡ true → b ≡ n → ⊥
inside_not b n f e z = let w : ◌≡◌ {A = ℕ} 0 1 = cc in omega arith

-- past n bytes that stand behind i others, none of them CR or LF, the line ends as before
pub past_inside : (f : List ℕ) (n i : ℕ) → i + n ≤ length f → ((k : ℕ) → k < n → is_inside (get_or f (i + k) 0) ≡ true)
    → ended_at i (lines_of (drop i f)) ≡ ended_at (i + n) (lines_of (drop (i + n) f))
unfolding is_inside
past_inside f zero i h e = rw (add-zero i)
past_inside f (suc n) i h e =
    let here = rw (add-zero i) at (e 0 (omega arith)) in
    let next : i + suc n ≡ (i + 1) + n = omega arith in
    at_text f i (omega arith) (inside_not (get_or f i 0) 13 refl here) (inside_not (get_or f i 0) 10 refl here)
    ∙ rw next (past_inside f n (i + 1) (omega arith) λ k g. let s : (i + 1) + k ≡ i + suc k = omega arith in rw s (e (suc k) (omega arith)))

-- the eight bytes from a place on
module _ (f : List ℕ) (i : ℕ) (h : i ≤ length f) (g : 8 ≤ length f - i) where
  eight : i + 8 - i ≡ 8
  eight = omega arith

  pub part_eight : length (take (i + 8 - i) (drop i f)) ≡ 8
  part_eight = let n = length-take (i + 8 - i) (drop i f) in let m = length-drop i f in omega (arith, n, m)

  pub past_part : ((k : ℕ) → k < length (take (i + 8 - i) (drop i f)) → is_inside (get_or (take (i + 8 - i) (drop i f)) k 0) ≡ true)
      → ended_at i (lines_of (drop i f)) ≡ ended_at (i + 8) (lines_of (drop (i + 8) f))
  past_part e =
      past_inside f 8 i (omega arith) λ k w.
      rw (← get_or-drop i f k 0, ← get_or-take (i + 8 - i) (drop i f) k 0 (omega arith)) (e k (omega (arith, part_eight)))

-- ---- the first CR LF lies in the file, and so does a line

abbrev Within : ℕ → ℕ → Option ℕ → Type 0
Within at size (Some e) = (at ≤ e) × (e < at + size)
Within at size None = Unit {0}

within_more : (at size : ℕ) (x : Option ℕ) → Within (at + 1) size x → Within at (suc size) x
within_more at size (Some e) h = (omega arith, omega arith)
within_more at size None h = tt

within : (at : ℕ) (l : List ℕ) → Within at (length l) (first_crlf at l)
unfolding first_crlf
within at [] = tt
within at (b ∷ l) =
    by_cond (Within at (suc (length l))) (begins_crlf (b ∷ l)) _ _ (omega arith, omega arith) (within_more at (length l) (first_crlf (at + 1) l) (within (at + 1) l))

-- what is found at e, from a place on, stands in the file
module _ (f : List ℕ) (at e : ℕ) (r : Option ℕ) (q : r ≡ first_crlf at (drop at f)) (g : r ≡ Some e) where
  found_by : (at ≤ e) × (e < at + length (drop at f))
  found_by = let w : first_crlf at (drop at f) ≡ Some e = rw (← q, g) in rw w at (within at (drop at f))

  pub found_fits : length f * 1 < 2 ^ 63 → Fits w64 (e + 2)
  found_fits h = omega (arith, found_by, length-drop at f)

abbrev Lies : List ℕ → Said Bounds → Type 0
Lies f (says b) = (b.from ≤ b.to) × (b.to ≤ length f)
Lies f (refuses n l b) = Unit {0}

lies_by : (f : List ℕ) (o : ℕ) (x : Option ℕ) → Within o (length (drop o f)) x → Lies f (given x (no BadValue 0) λ e. says (record { from = o; to = e }))
lies_by f o (Some e) h = (h.0, omega (arith, h.0, h.1, length-drop o f))
lies_by f o None h = tt

lies : (f table : List ℕ) (n : ℕ) → Lies f (bounds_of f table n)
unfolding bounds_of on
lies f table n =
    by_need (Lies f) (leb 1 n) _ _ tt
    (by_need (Lies f) (leb n (length table)) _ _ tt
    (by_need (Lies f) (is_start f (get_or table (n - 1) 0)) _ _ tt
    (lies_by f (get_or table (n - 1) 0) (first_crlf (get_or table (n - 1) 0) (drop (get_or table (n - 1) 0) f)) (within _ _))))

-- the bounds that were answered lie in the file
module _ (f table : List ℕ) (n : ℕ) (b : Bounds) (r : Result Bounds Refusal) (q : result_told r ≡ bounds_of f table n) (g : r ≡ Ok b) where
  answered : bounds_of f table n ≡ says b
  unfolding result_told
  answered = rw (← q, g)

  pub bounds_order : b.from ≤ b.to
  bounds_order = (rw answered at (lies f table n)).0

  pub bounds_end : b.to ≤ length f
  bounds_end = (rw answered at (lies f table n)).1

  pub line_is : line_text f (bounds_of f table n) ≡ part b.from b.to f
  unfolding line_text
  line_is = rw answered

-- a refused line has no bytes
pub no_line : (f table : List ℕ) (n : ℕ) (r : Result Bounds Refusal) (w : Refusal) → result_told r ≡ bounds_of f table n → r ≡ Err w → line_text f (bounds_of f table n) ≡ []
unfolding result_told line_text
no_line f table n r w q g = rw (← q, g)

-- ---- a refusal with no line and no byte

pub refuses_unplaced : {A : Type 0} (reason : Reason) (r : Refusal) → r ≡ unplaced reason → refusal {A = A} r ≡ no reason 0
refuses_unplaced reason r e = rw e
