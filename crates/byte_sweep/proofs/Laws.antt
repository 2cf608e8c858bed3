-- A test of every byte, a byte at a time; what is mild is valid in every line, and is text. Assumes nothing.
use Rattle.std.specs.Prelude.{None, fold}
use Prim.Native.Nat.{ℕ, suc, ◌≤◌}
use mathlib.Core.Bool.{Bool, true, false, not, ◌&&◌, ◌||◌, and-true}
use mathlib.Core.List.{List, [], ◌∷◌}
use mathlib.Core.Path.{◌≡◌, refl, sym, ◌∙◌}
use native.Mathlib.Omega.{arith}
use borrow.Author.Tests.{leb-true, le-leb, ne_eqb, eqb-true}
use lib.Dec.{eqb, leb}
use lib.ListN.{drop}
use Rattle.rules.proofs.Inverse.{and_inv, or_inv}
use Rattle.rules.specs.Choice.{leads, first_of}
use Rattle.rules.specs.Chars.{is_valid, first_invalid}
use Rattle.rules_laws.proofs.Splitting.{Text}
use Rattle.byte_sweep.specs.Plain.{is_plain, is_mild, every}

-- ---- every byte was tested, from the first to the last; r is what was found

fold_every : (test : ℕ → Bool) (l : List ℕ) (ok : Bool) → fold (λ ok b. ok && test b) ok l ≡ (ok && every test l)
unfolding leads
fold_every test [] ok = sym (and-true ok)
fold_every test (b ∷ l) ok = fold_every test l (ok && test b) ∙ and_assoc ok (test b) (every test l)
  where
    and_assoc : (x y z : Bool) → ((x && y) && z) ≡ (x && (y && z))
    and_assoc true y z = refl
    and_assoc false y z = refl

module _ (test : ℕ → Bool) (r : Bool) where
  pub folded : (l : List ℕ) → r ≡ fold (λ ok b. ok && test b) true l → r ≡ every test l
  folded l e = e ∙ fold_every test l true

  -- the text from an offset on
  pub folded_from : (l t : List ℕ) (from : ℕ) → t ≡ drop from l → r ≡ fold (λ ok b. ok && test b) true t → r ≡ every test (drop from l)
  folded_from l t from h e = rw (← h) (folded t e)

-- ---- plain bytes are mild, and mild bytes are valid

pub plain_mild : (b : ℕ) → is_plain b ≡ true → is_mild b ≡ true
unfolding is_mild
plain_mild b e = by (eqb b 32) (eqb b 93)
  where
    by : (x y : Bool) → (x || y || is_plain b || (leb 95 b && leb b 125)) ≡ true
    by true y = refl
    by false true = refl
    by false false = rw e

pub plain_is_mild : (l : List ℕ) → every is_plain l ≡ true → every is_mild l ≡ true
unfolding leads
plain_is_mild [] e = refl
plain_is_mild (b ∷ l) e = let s = and_inv _ _ e in rw (plain_mild b s.0) (plain_is_mild l s.1)

-- the numbers that a mild byte can be
abbrev Range : ℕ → ℕ → ℕ → Type 0
Range low high b = (low ≤ b) × (b ≤ high)

-- what holds of the space, of the closing bracket and of both ranges holds of a mild byte
module _ {P : Type 0} where
  mild_by : (b : ℕ) → (b ≡ 32 → P) → (b ≡ 93 → P) → (Range 45 91 b → P) → (Range 95 125 b → P) → is_mild b ≡ true → P
  unfolding is_mild is_plain
  mild_by b space closing plain small e =
      or_inv _ (leb 95 b && leb b 125) e
      (λ t. or_inv _ (leb 45 b && leb b 91) t
      (λ s. or_inv (eqb b 32) (eqb b 93) s (λ h. space (eqb-true b 32 h)) (λ h. closing (eqb-true b 93 h)))
      (λ h. let k = and_inv (leb 45 b) (leb b 91) h in plain (leb-true 45 b k.0, leb-true b 91 k.1)))
      (λ h. let k = and_inv (leb 95 b) (leb b 125) h in small (leb-true 95 b k.0, leb-true b 125 k.1))

valid_between : (b : ℕ) → 45 ≤ b → b ≤ 125 → (b ≡ 92 → ⊥) → (b ≡ 94 → ⊥) → is_valid false b ≡ true
unfolding is_valid
valid_between b lo hi m n =
    rw (le-leb 32 b (omega arith), le-leb b 125 (omega arith), ne_eqb b 33 (λ z. omega arith), ne_eqb b 36 (λ z. omega arith), ne_eqb b 42 (λ z. omega arith), ne_eqb b 92 m, ne_eqb b 94 n, ne_eqb b 44 (λ z. omega arith))

mild_byte_valid : (b : ℕ) → is_mild b ≡ true → is_valid false b ≡ true
unfolding is_valid
mild_byte_valid b e =
    mild_by b (λ h. rw h) (λ h. rw h)
    (λ h. valid_between b h.0 (omega (arith, h.1)) (λ z. omega (arith, h.1)) (λ z. omega (arith, h.1)))
    (λ h. valid_between b (omega (arith, h.0)) h.1 (λ z. omega (arith, h.0)) (λ z. omega (arith, h.0)))
    e

none_from : (l : List ℕ) (n : ℕ) → every is_mild l ≡ true → first_of (λ b. not (is_valid false b)) (λ i b. i) l n ≡ None
unfolding first_of leads
none_from [] n e = refl
none_from (b ∷ l) n e = let s = and_inv _ _ e in rw (mild_byte_valid b s.0) (none_from l (suc n) s.1)

-- no byte of a mild text is invalid
pub mild_valid : (l : List ℕ) → every is_mild l ≡ true → first_invalid false l ≡ None
unfolding first_invalid
mild_valid l e = none_from l 0 e

not_small : (b n : ℕ) → n ≤ 13 → is_mild b ≡ true → b ≡ n → ⊥
not_small b n h e z =
    mild_by b (λ k. omega arith) (λ k. omega arith) (λ k. omega (arith, k.0)) (λ k. omega (arith, k.0)) e

-- nor is one CR or LF
pub mild_text : (l : List ℕ) → every is_mild l ≡ true → Text l
unfolding leads
mild_text [] e = tt
mild_text (b ∷ l) e = let s = and_inv _ _ e in (not_small b 13 (omega arith) s.0, not_small b 10 (omega arith) s.0, mild_text l s.1)
