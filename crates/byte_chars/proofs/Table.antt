-- The table of the characters agrees with the rule: one test, computed over the whole table, and what it says of each byte. Assumes nothing.
use Rattle.std.specs.Prelude.{None, fold}
use Prim.Native.Nat.{ℕ, zero, suc, ◌+◌, ◌<◌}
use mathlib.Core.Bool.{Bool, true, false, not, ◌&&◌, ◌||◌, cond, and-true}
use mathlib.Core.List.{List, [], ◌∷◌}
use mathlib.Core.Path.{◌≡◌, refl, sym, ◌∙◌}
use native.Mathlib.Omega.{arith}
use borrow.Author.Tests.{eqb-true}
use lib.Dec.{eqb}
use lib.ListN.{length, get_or}
use Rattle.rules.proofs.Inverse.{and_inv}
use Rattle.rules.specs.Choice.{first_of}
use Rattle.rules.specs.Chars.{is_valid, first_invalid}
use Rattle.byte_chars.specs.Characters.{class_of, Agrees}

-- ---- the test of a whole table

-- each number, counted from i on, is what the rule says of its byte
abbrev pub holds : ℕ → List ℕ → Bool
holds i [] = true
holds i (x ∷ xs) = eqb x (class_of i) && holds (suc i) xs

from : (xs : List ℕ) (i : ℕ) → holds i xs ≡ true → (k : ℕ) → k < length xs → get_or xs k 0 ≡ class_of (i + k)
from [] i t k h = absurd (omega arith)
from (x ∷ xs) i t zero h =
    let e : i + 0 ≡ i = omega arith in
    rw e (eqb-true x (class_of i) (and_inv (eqb x (class_of i)) (holds (suc i) xs) t).0)
from (x ∷ xs) i t (suc k) h =
    let e : i + suc k ≡ suc i + k = omega arith in
    rw e (from xs (suc i) (and_inv (eqb x (class_of i)) (holds (suc i) xs) t).1 k (omega arith))

pub agrees : (table : List ℕ) → length table ≡ 256 → holds 0 table ≡ true → Agrees table
agrees table n t =
    record {
      size = n;
      each = λ b h. let e : 0 + b ≡ b = omega arith in rw e at (from table 0 t b (omega (arith, n)));
    }

-- ---- what a number says of its byte

-- outside H lines a byte is valid where it is valid in them and no comma
but_comma : (in_h : Bool) (b : ℕ) → is_valid in_h b ≡ (is_valid true b && (in_h || not (eqb b 0x2C)))
unfolding is_valid
but_comma in_h b = rw and-true

-- the number of a byte that is valid in H lines (a), and no comma (n)
abbrev said : Bool → Bool → ℕ
said a n = cond (a && (false || n)) 1 (cond a 2 0)

said_of : (b : ℕ) → class_of b ≡ said (is_valid true b) (not (eqb b 0x2C))
unfolding class_of
said_of b = rw (but_comma false b)

one : (in_h a n : Bool) → said a n ≡ 1 → true ≡ (a && (in_h || n))
one true true true e = refl
one false true true e = refl
one in_h true false e = absurd (omega arith)
one in_h false n e = absurd (omega arith)

never : (in_h a n : Bool) → said a n ≡ 0 → false ≡ (a && (in_h || n))
never in_h true true e = absurd (omega arith)
never in_h true false e = absurd (omega arith)
never in_h false n e = refl

other : (in_h a n : Bool) → (said a n ≡ 1 → ⊥) → (said a n ≡ 0 → ⊥) → in_h ≡ (a && (in_h || n))
other in_h true true p q = absurd (p refl)
other true true false p q = refl
other false true false p q = refl
other in_h false n p q = absurd (q refl)

module _ (table : List ℕ) (in_h : Bool) (b : ℕ) (t : Agrees table) (h : b < 256) where
  here : get_or table b 0 ≡ said (is_valid true b) (not (eqb b 0x2C))
  here = t.each b h ∙ said_of b

  pub table_valid : get_or table b 0 ≡ 1 → true ≡ is_valid in_h b
  table_valid e = one in_h (is_valid true b) (not (eqb b 0x2C)) (sym here ∙ e) ∙ sym (but_comma in_h b)

  pub table_never : get_or table b 0 ≡ 0 → false ≡ is_valid in_h b
  table_never e = never in_h (is_valid true b) (not (eqb b 0x2C)) (sym here ∙ e) ∙ sym (but_comma in_h b)

  pub table_comma : (get_or table b 0 ≡ 1 → ⊥) → (get_or table b 0 ≡ 0 → ⊥) → in_h ≡ is_valid in_h b
  table_comma p q = other in_h (is_valid true b) (not (eqb b 0x2C)) (λ e. p (here ∙ e)) (λ e. q (here ∙ e)) ∙ sym (but_comma in_h b)

-- ---- a byte that is valid in every line is valid in each

pub valid_in : (in_h : Bool) (b : ℕ) → is_valid false b ≡ true → is_valid in_h b ≡ true
valid_in true b e = (and_inv (is_valid true b) (not (eqb b 0x2C)) (sym (but_comma false b) ∙ e)).0
valid_in false b e = e

-- ---- where all bytes are valid in every line, none is invalid in any

none_from : (l : List ℕ) (ok : Bool) → fold (λ ok b. ok && is_valid false b) ok l ≡ true
    → (ok ≡ true) × ((in_h : Bool) (n : ℕ) → first_of (λ b. not (is_valid in_h b)) (λ i b. i) l n ≡ None)
unfolding first_of
none_from [] ok e = (e, λ in_h n. refl)
none_from (b ∷ l) ok e =
    let ih = none_from l (ok && is_valid false b) e in
    let both = and_inv ok (is_valid false b) ih.0 in
    (both.0, λ in_h n. rw (valid_in in_h b both.1) (ih.1 in_h (suc n)))

pub none_invalid : (l : List ℕ) → fold (λ ok b. ok && is_valid false b) true l ≡ true → (in_h : Bool) → first_invalid in_h l ≡ None
unfolding first_invalid
none_invalid l e in_h = (none_from l true e).1 in_h 0
