-- The part of a file up to the end of its last G line: it is the file's front; it is counted line by line; and two files have it alike where the bytes of it are the same.
-- Assumes nothing.
use Rattle.std.specs.Prelude.{None, Option, Some}
use Prim.Native.Nat.{ℕ, suc, ◌+◌, ◌-◌, ◌≤◌, ◌<◌}
use mathlib.Core.Bool.{Bool, true, false, not, ◌&&◌, ◌||◌, cond}
use mathlib.Core.List.{List, [], ◌∷◌, ◌++◌, append_assoc}
use mathlib.Core.Logic.{◌⊎◌, inl, inr}
use mathlib.Core.Path.{◌≡◌, refl, sym, ◌∙◌, ap}
use native.Mathlib.Omega.{arith}
use borrow.Author.Tests.{eq-eqb, ne_eqb, eqb-true, not-true, not-false}
use lib.Dec.{eqb}
use lib.ListN.{length, take, drop, get_or, length-append, length-drop, drop_of_length-le}
use lib.Pointwise.{pointwise}
use lib.Seq.{get_or-drop, take-append_seam, length-take-le}
use Rattle.rules.specs.Split.{Lines, end, broken, line, lines_of}
use Rattle.rules.proofs.Inverse.{false_true, and_inv}
use Rattle.rules_laws.proofs.Splitting.{cut}
use Rattle.file_lines.specs.Ends.{ended_at}
use Rattle.file_lines.specs.declared.scan.Ended.TheVariants as ended
use Rattle.file_lines.proofs.Cuts.{torn}
use Rattle.file_lines.proofs.Cuts as cuts
use Rattle.notes_rules.specs.Notes.{is_seal, sealed, common_part, is_same}

-- ---- it is the file's front

record Front (l : List ℕ) (k : Lines) : Type 0 where
  rest : List ℕ
  bytes : l ≡ common_part k ++ rest

front_line : (b : Bool) (l t r p q : List ℕ) → l ≡ t ++ 13 ∷ 10 ∷ r → r ≡ p ++ q → (rest : List ℕ) × (l ≡ cond b (t ++ 13 ∷ 10 ∷ p) [] ++ rest)
front_line true l t r p q e f = (q, e ∙ ap (λ (x : List ℕ). t ++ 13 ∷ 10 ∷ x) f ∙ sym (append_assoc t (13 ∷ 10 ∷ p) q))
front_line false l t r p q e f = (l, refl)

front_by : (k : Lines) (l : List ℕ) → lines_of l ≡ k → Front l k
unfolding common_part
front_by end l e = record { rest = l; bytes = refl }
front_by (broken n) l e = record { rest = l; bytes = refl }
front_by (line t ls) l e =
    let c = cut l t ls e in
    let m = front_by ls c.rest c.lines in
    let r = front_line (is_seal t || sealed ls) l t c.rest (common_part ls) m.rest c.bytes m.bytes in
    record { rest = r.0; bytes = r.1 }

abbrev size : List ℕ → ℕ
size f = length (common_part (lines_of f))

pub front_inside : (f : List ℕ) → size f ≤ length f
front_inside f = let w = front_by (lines_of f) f refl in omega (arith, ap length w.bytes, length-append (common_part (lines_of f)) w.rest)

-- where both have as many
pub front_both : (f g : List ℕ) (n m : ℕ) → n ≡ size f → m ≡ size g → n ≡ m → (n ≤ length f) × (n ≤ length g)
front_both f g n m e h s = (omega (arith, front_inside f), omega (arith, front_inside g))

pub front_is : (f : List ℕ) → take (size f) f ≡ common_part (lines_of f)
front_is f = let w = front_by (lines_of f) f refl in ap (take (size f)) w.bytes ∙ take-append_seam (common_part (lines_of f)) w.rest

-- ---- counted line by line

-- what the lines from a place on make of what was seen so far
abbrev pub reach : ℕ → ℕ → Lines → ℕ
reach seen at k = cond (sealed k) (at + length (common_part k)) seen

pub none_common : (k : Lines) → sealed k ≡ false → common_part k ≡ []
unfolding sealed common_part
none_common end e = refl
none_common (broken n) e = refl
none_common (line t ls) e = rw e

reach_line : (seen at : ℕ) (t : List ℕ) (ls : Lines) → reach seen at (line t ls) ≡ reach (cond (is_seal t) (at + length t + 2) seen) (at + length t + 2) ls
unfolding sealed common_part
reach_line seen at t ls = go (is_seal t) (sealed ls) refl
  where
    go : (b s : Bool) → sealed ls ≡ s → cond (b || s) (at + length (cond (b || s) (t ++ 13 ∷ 10 ∷ common_part ls) [])) seen ≡ cond s (at + length t + 2 + length (common_part ls)) (cond b (at + length t + 2) seen)
    go true true e = omega (arith, length-append t (13 ∷ 10 ∷ common_part ls))
    go true false e = omega (arith, length-append t (13 ∷ 10 ∷ common_part ls), ap length (none_common ls e))
    go false true e = omega (arith, length-append t (13 ∷ 10 ∷ common_part ls))
    go false false e = refl

-- a G line by the byte at its place
seal_first : (t r : List ℕ) → eqb (get_or (t ++ 13 ∷ 10 ∷ r) 0 0) 71 ≡ is_seal t
seal_first [] r = refl
seal_first (b ∷ t) r = refl

pub seal_at_lem : (f : List ℕ) (at : ℕ) (t : List ℕ) (ls : Lines) → lines_of (drop at f) ≡ line t ls → eqb (get_or f at 0) 71 ≡ is_seal t
seal_at_lem f at t ls e =
    let c = cut (drop at f) t ls e in
    let n : at + 0 ≡ at = omega arith in
    let g : get_or (drop at f) 0 0 ≡ get_or f at 0 = rw n at (get_or-drop at f 0 0) in
    rw (← g, c.bytes) (seal_first t c.rest)

-- a line that was found stands inside the file with its ending
pub line_fits : (f : List ℕ) (at e : ℕ) → ended.At e ≡ ended_at at (lines_of (drop at f)) → (at < e + 2) × (e + 2 ≤ length f)
line_fits f at e q = let c = cuts.cut f at e q in (omega (arith, c.start), c.fits)

-- what holds where the lines from `at` on are looked at: they decide as all lines do
pub record Looking (f : List ℕ) (seen at : ℕ) : Type 0 where
  pub inside : at ≤ length f
  pub is : reach seen at (lines_of (drop at f)) ≡ size f

module _ (f : List ℕ) where
  all_reach : (k : Lines) → reach 0 0 k ≡ length (common_part k)
  all_reach k = go (sealed k) refl
    where
      go : (b : Bool) → sealed k ≡ b → cond b (0 + length (common_part k)) 0 ≡ length (common_part k)
      go true e = omega arith
      go false e = omega (arith, ap length (none_common k e))

  pub looking_first : Looking f 0 0
  looking_first = record { inside = omega arith; is = all_reach (lines_of f) }

  module _ (seen at : ℕ) (w : Looking f seen at) where
    pub looking_end : length f ≤ at → seen ≡ size f
    unfolding lines_of sealed
    looking_end h = rw (drop_of_length-le f h) at w.is

    pub looking_torn : (e : ℕ) → at < length f → ended.Broken e ≡ ended_at at (lines_of (drop at f)) → seen ≡ size f
    unfolding sealed
    looking_torn e h q = let t = torn f at e q h in rw t.lines at w.is

    module _ (e : ℕ) (q : ended.At e ≡ ended_at at (lines_of (drop at f))) where
      next_is : reach (cond (eqb (get_or f at 0) 71) (e + 2) seen) (e + 2) (lines_of (drop (e + 2) f)) ≡ size f
      next_is =
          let c = cuts.cut f at e q in
          let t = take (e - at) (drop at f) in
          let ls = lines_of (drop (e + 2) f) in
          let n : length t ≡ e - at = length-take-le (e - at) (drop at f) (omega (arith, c.fits, length-drop at f)) in
          let m : at + length t + 2 ≡ e + 2 = omega (arith, c.start) in
          rw (seal_at_lem f at t ls c.lines) (rw m at (sym (reach_line seen at t ls)) ∙ ap (reach seen at) (sym c.lines) ∙ w.is)

      looking_seal : get_or f at 0 ≡ 71 → Looking f (e + 2) (e + 2)
      looking_seal g = let c = cuts.cut f at e q in record { inside = c.fits; is = rw (eq-eqb (get_or f at 0) 71 g) at next_is }

      looking_next : (get_or f at 0 ≡ 71 → ⊥) → Looking f seen (e + 2)
      looking_next g = let c = cuts.cut f at e q in record { inside = c.fits; is = rw (ne_eqb (get_or f at 0) 71 g) at next_is }

      -- what is seen afterwards, where the line is a G line, and where it is not
      pub looking_either : {A B : Type 0} (s : ℕ) → (A → get_or f at 0 ≡ 71) → (B → (get_or f at 0 ≡ 71 → ⊥)) → (A × (s ≡ e + 2)) ⊎ (B × (s ≡ seen)) → Looking f s (e + 2)
      looking_either s f g (inl p) = rw p.1 (looking_seal (f p.0))
      looking_either s f g (inr p) = rw p.1 (looking_next (g p.0))

-- ---- two files compared

-- as `==` compares them
pub bytes_same : (x y : List ℕ) → pointwise eqb x y ≡ is_same x y
bytes_same [] [] = refl
bytes_same [] (b ∷ y) = refl
bytes_same (a ∷ x) [] = refl
bytes_same (a ∷ x) (b ∷ y) = rw (bytes_same x y)

-- texts of other lengths are not the same
pub same_length : (x y : List ℕ) → (length x ≡ length y → ⊥) → is_same x y ≡ false
same_length [] [] n = absurd (n refl)
same_length [] (b ∷ y) n = refl
same_length (a ∷ x) [] n = refl
same_length (a ∷ x) (b ∷ y) n = rw (same_length x y (λ e. n (ap suc e))) (go (eqb a b))
  where
    go : (t : Bool) → (t && false) ≡ false
    go true = refl
    go false = refl

-- and the same are the same bytes
pub same_is : (x y : List ℕ) → is_same x y ≡ true → x ≡ y
same_is [] [] e = refl
same_is [] (b ∷ y) e = absurd (false_true e)
same_is (a ∷ x) [] e = absurd (false_true e)
same_is (a ∷ x) (b ∷ y) e =
    let w = and_inv (eqb a b) (is_same x y) e in
    let p : a ≡ b = eqb-true a b w.0 in
    let q : x ≡ y = same_is x y w.1 in
    cc

pub is_same_lem : (x : List ℕ) → is_same x x ≡ true
is_same_lem [] = refl
is_same_lem (a ∷ x) = rw (eq-eqb a a refl) (is_same_lem x)

module _ (first second : List ℕ) where
  abbrev one : List ℕ
  one = common_part (lines_of first)

  abbrev two : List ℕ
  two = common_part (lines_of second)

  -- what is found
  abbrev alike : Option ℕ
  alike = cond (is_same one two) (Some (length one)) None

  pub not_alike : (n m : ℕ) → n ≡ length one → m ≡ length two → (n ≡ m → ⊥) → None ≡ alike
  not_alike n m e g d = rw (same_length one two (λ z. d (e ∙ z ∙ sym g)))

  module _ (n m : ℕ) (e : n ≡ length one) (g : m ≡ length two) (s : n ≡ m) where
    front_same : (r : Bool) → r ≡ is_same (take n first) (take n second) → r ≡ is_same one two
    front_same r q =
        let a : take n first ≡ one = ap (λ (k : ℕ). take k first) e ∙ front_is first in
        let b : take n second ≡ two = ap (λ (k : ℕ). take k second) (s ∙ g) ∙ front_is second in
        rw (a, b) at q

    -- `r` is what `!=` said of their bytes
    pub other_bytes : (r : Bool) → r ≡ not (pointwise eqb (take n first) (take n second)) → r ≡ true → None ≡ alike
    other_bytes r q d = rw (sym (front_same (pointwise eqb (take n first) (take n second)) (bytes_same (take n first) (take n second))) ∙ not-true _ (sym q ∙ d))

    pub same_bytes : (r : Bool) → r ≡ not (pointwise eqb (take n first) (take n second)) → r ≡ false → Some n ≡ alike
    same_bytes r q d = rw (sym (front_same (pointwise eqb (take n first) (take n second)) (bytes_same (take n first) (take n second))) ∙ not-false _ (sym q ∙ d), e)
