-- The characters and the length of a line: a text is clean where each byte is valid, so the parts of a line are clean where the line is. Assumes nothing.
use Rattle.std.specs.Prelude.{None, Option, Some}
use Prim.Native.Nat.{ℕ, zero, suc, ◌+◌, ◌≤◌, ◌<◌}
use mathlib.Core.Bool.{Bool, true, false, not, ◌&&◌, cond, and_assoc}
use mathlib.Core.List.{List, [], ◌∷◌, ◌++◌}
use mathlib.Core.Path.{◌≡◌, refl, sym, ◌∙◌, ap}
use native.Mathlib.Omega.{arith}
use borrow.Author.Tests.{le-leb, leb-true, ne_eqb}
use lib.Dec.{leb}
use lib.ListN.{length, length-append}
use Rattle.rules.specs.Choice.{given, first_of}
use Rattle.rules.specs.Refusals.{says, refuses}
use Rattle.rules.specs.Chars.{is_valid, is_digit, first_invalid, characters}
use Rattle.rules.specs.Lines.{is_sized, shaped}
use Rattle.rules.specs.Limits.{is_clean}
use Rattle.rules.proofs.Inverse.{false_true, refuses_says, need_inv, and_inv}

-- each byte is valid outside H lines
unfoldable pub are_valid : List ℕ → Bool
are_valid [] = true
are_valid (b ∷ l) = is_valid false b && are_valid l

pub clean_valid : (l : List ℕ) → is_clean l ≡ are_valid l
unfolding is_clean first_invalid are_valid first_of
clean_valid l = go l 0
  where
    step : (t : Bool) (n : ℕ) (o : Option ℕ) (v : Bool) → given o true (λ i. false) ≡ v → given (cond (not t) (Some n) o) true (λ i. false) ≡ (t && v)
    step true n o v e = e
    step false n o v e = refl

    go : (l : List ℕ) (n : ℕ) → given (first_of (λ b. not (is_valid false b)) (λ (i b : ℕ). i) l n) true (λ i. false) ≡ are_valid l
    go [] n = refl
    go (b ∷ l) n = step (is_valid false b) n _ _ (go l (suc n))

pub valid_join : (a b : List ℕ) → are_valid (a ++ b) ≡ (are_valid a && are_valid b)
unfolding are_valid
valid_join [] b = refl
valid_join (x ∷ a) b = ap (λ t. is_valid false x && t) (valid_join a b) ∙ sym (and_assoc (is_valid false x) (are_valid a) (are_valid b))

pub both_valid : (a b : List ℕ) → are_valid a ≡ true → are_valid b ≡ true → are_valid (a ++ b) ≡ true
both_valid a b p q = rw (valid_join, p, q)

pub digit_range : (b : ℕ) → is_digit b ≡ true → (48 ≤ b) × (b ≤ 57)
unfolding is_digit
digit_range b e = let r = and_inv (leb 48 b) (leb b 57) e in (leb-true 48 b r.0, leb-true b 57 r.1)

pub digit_valid : (b : ℕ) → is_digit b ≡ true → is_valid false b ≡ true
unfolding is_valid
digit_valid b e =
    let r = digit_range b e in
    simp (le-leb 0x20 b (omega arith), le-leb b 0x7D (omega arith), ne_eqb b 0x21 (omega arith), ne_eqb b 0x24 (omega arith), ne_eqb b 0x2A (omega arith), ne_eqb b 0x5C (omega arith), ne_eqb b 0x5E (omega arith), ne_eqb b 0x2C (omega arith))

-- a valid character is not the 0 that stands past the end of a line
pub valid_low : (b : ℕ) → is_valid false b ≡ true → 0 < b
unfolding is_valid
valid_low zero e = absurd (false_true e)
valid_low (suc b) e = omega arith

-- ---- 'nothing was found': as an answer, and as a test

pub nothing_there : {A : Type 0} (o : Option A) (k : ℕ) (byte : A → ℕ) (u : Unit {0}) → given o (says tt) (λ i. refuses k 0 (byte i)) ≡ says u
    → given o true (λ i. false) ≡ true
nothing_there None k byte u e = refl
nothing_there (Some i) k byte u e = absurd (refuses_says e)

pub nothing_here : {A : Type 0} (o : Option A) (k : ℕ) (byte : A → ℕ) → given o true (λ i. false) ≡ true → given o (says tt) (λ i. refuses k 0 (byte i)) ≡ says (tt {0})
nothing_here None k byte e = refl
nothing_here (Some i) k byte e = absurd (false_true e)

-- ---- 'shaped'

pub shaped_there : (least most : ℕ) (l : List ℕ) (u : Unit {0}) → shaped least most false l ≡ says u → (least ≤ length l) × (length l ≤ most) × (are_valid l ≡ true)
unfolding shaped is_sized characters is_clean
shaped_there least most l u e =
    let n = need_inv (leb least (length l) && leb (length l) most) _ _ _ refuses_says e in
    let s = and_inv (leb least (length l)) (leb (length l) most) n.0 in
    (leb-true _ _ s.0, leb-true _ _ s.1, sym (clean_valid l) ∙ nothing_there (first_invalid false l) _ (λ i. i + 1) u n.1)

pub shaped_here : (least most : ℕ) (l : List ℕ) → least ≤ length l → length l ≤ most → are_valid l ≡ true → shaped least most false l ≡ says tt
unfolding shaped is_sized characters is_clean
shaped_here least most l p q v = simp (le-leb least (length l) p, le-leb (length l) most q) (nothing_here (first_invalid false l) _ (λ i. i + 1) (clean_valid l ∙ v))

-- a line of a front, n clean bytes, and what stands behind it
module _ (least most n : ℕ) (a r : List ℕ) (long : length a ≡ n) where
  pub front_there : (u : Unit {0}) → shaped least most false (a ++ r) ≡ says u → (least ≤ n + length r) × (n + length r ≤ most) × (is_clean r ≡ true)
  front_there u e =
      let s = shaped_there least most (a ++ r) u e in
      let l : length (a ++ r) ≡ n + length r = rw (length-append, long) in
      (rw l at s.0, rw l at s.1, clean_valid r ∙ (and_inv (are_valid a) (are_valid r) (sym (valid_join a r) ∙ s.2)).1)

  pub front_here : are_valid a ≡ true → least ≤ n + length r → n + length r ≤ most → is_clean r ≡ true → shaped least most false (a ++ r) ≡ says tt
  front_here v p q c =
      let l : length (a ++ r) ≡ n + length r = rw (length-append, long) in
      shaped_here least most (a ++ r) (rw l p) (rw l q) (both_valid a r v (sym (clean_valid r) ∙ c))
