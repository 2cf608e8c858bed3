-- Laws of digits and the numbers that they spell. Assumes nothing.
use Rattle.std.specs.Prelude.{None, Option, Some}
use Prim.Native.Nat.{ℕ, zero, suc, ◌+◌, ◌-◌, ◌*◌, ◌^◌, ◌≤◌, ◌<◌}
use mathlib.Core.Bool.{Bool, true, false, cond}
use mathlib.Core.List.{List, [], ◌∷◌}
use mathlib.Core.Path.{◌≡◌, refl}
use native.Mathlib.Nat.{pow-suc, pow-succ', pow-le-pow_right, mul_assoc, mul-le-mul_right, lt_of_lt_of_le}
use native.Mathlib.Numerals.{add-one, sub-one}
use native.Mathlib.Omega.{arith}
use borrow.Author.Tests.{leb-true, le-leb}
use lib.Dec.{leb, lit≤}
use lib.ListN.{length, get_or, drop, take, drop_of_length-le, length-drop}
use lib.Seq.{drop-cons}
use mir.Syntax.{w8, w64}
use mir.Val.{Fits}
use Rattle.rules.specs.Choice.{need, on}
use Rattle.rules.specs.Chars.{is_digit}
use Rattle.rules.specs.Numbers.{spell, number_at, whole_of}
use Rattle.rules.proofs.Inverse.{and_inv}

-- ---- a digit is 48 to 57

pub digit_low : (b : ℕ) → is_digit b ≡ true → 48 ≤ b
unfolding is_digit
digit_low b e = leb-true 48 b (and_inv (leb 48 b) (leb b 57) e).0

pub digit_high : (b : ℕ) → is_digit b ≡ true → b ≤ 57
unfolding is_digit
digit_high b e = leb-true b 57 (and_inv (leb 48 b) (leb b 57) e).1

-- ---- one turn of the reader

pub spell_more : (n v : ℕ) (s : List ℕ) (i : ℕ) → 0 < n → i < length s → is_digit (get_or s i 0) ≡ true
    → spell n v (drop i s) ≡ spell (n - 1) (v * 10 + (get_or s i 0 - 48)) (drop (i + 1) s)
unfolding spell
spell_more zero v s i p h d = elim p [ ]
spell_more (suc n) v s i p h d = rw (sub-one, add-one, drop-cons s i 0 h) (simp d)

pub spell_short : (n v : ℕ) (s : List ℕ) (i : ℕ) → 0 < n → length s ≤ i → spell n v (drop i s) ≡ None
unfolding spell
spell_short zero v s i p h = elim p [ ]
spell_short (suc n) v s i p h = rw drop_of_length-le

pub spell_other : (n v : ℕ) (s : List ℕ) (i : ℕ) → 0 < n → i < length s → is_digit (get_or s i 0) ≡ false → spell n v (drop i s) ≡ None
unfolding spell
spell_other zero v s i p h d = elim p [ ]
spell_other (suc n) v s i p h d = rw (drop-cons s i 0 h) (simp d)

-- what k digits make, with one digit more, is below the next power
pub grows : (k v d : ℕ) → v < 10 ^ k → d ≤ 9 → v * 10 + d < 10 ^ (k + 1)
grows k v d h g = rw (add-one, pow-suc) (omega arith)

pub below_17 : (k v : ℕ) → k ≤ 17 → v < 10 ^ k → v < 10 ^ 17
below_17 k v le h = omega (arith, pow-le-pow_right {n = 10} (omega arith) le)

-- no text, no number
pub whole_empty : (t : List ℕ) → length t < 1 → whole_of t ≡ None
unfolding whole_of on
whole_empty [] h = refl
whole_empty (b ∷ t) h = let z : ⊥ = omega arith in search

-- ---- what was read has its digits, and is below the power of ten that they allow

pub cond_some : (t : Bool) (a : Option ℕ) (w : ℕ) → cond t a None ≡ Some w → (t ≡ true) × (a ≡ Some w)
cond_some true a w e = (refl, e)
cond_some false a w e = (cc, cc)

spell_long : (n v w : ℕ) (l : List ℕ) → spell n v l ≡ Some w → n ≤ length l
unfolding spell
spell_long zero v w l e = omega arith
spell_long (suc n) v w [] e = let z : ◌≡◌ {A = ℕ} 0 1 = cc in omega arith
spell_long (suc n) v w (b ∷ l) e =
    let h : n ≤ length l = spell_long n (v * 10 + (b - 48)) w l (cond_some (is_digit b) _ w e).1 in omega arith

spell_below : (n v w : ℕ) (l : List ℕ) → spell n v l ≡ Some w → w < (v + 1) * 10 ^ n
unfolding spell
spell_below zero v w l e = let g : v ≡ w = cc in omega arith
spell_below (suc n) v w [] e = let z : ◌≡◌ {A = ℕ} 0 1 = cc in omega arith
spell_below (suc n) v w (b ∷ l) e =
    let f = cond_some (is_digit b) _ w e in
    let hi : b ≤ 57 = digit_high b f.0 in
    let ih = spell_below n (v * 10 + (b - 48)) w l f.1 in
    let g : v * 10 + (b - 48) + 1 ≤ (v + 1) * 10 = omega arith in
    rw (pow-succ', ← mul_assoc) (lt_of_lt_of_le ih (mul-le-mul_right (10 ^ n) g))

need_some : (t : Bool) (f : Unit {0} → Option ℕ) (w : ℕ) → need t None f ≡ Some w → (t ≡ true) × (f tt ≡ Some w)
need_some true f w e = (refl, e)
need_some false f w e = (cc, cc)

pub number_long : (s : List ℕ) (at n w : ℕ) → number_at s at n ≡ Some w → 0 < n → at + n ≤ length s
unfolding number_at
number_long s at n w e p = omega (arith, length-drop at s, spell_long n 0 w (drop at s) (need_some (leb n 18) _ w e).1)

pub number_below : (s : List ℕ) (at n w : ℕ) → number_at s at n ≡ Some w → w < 10 ^ n
unfolding number_at
number_below s at n w e = omega (arith, spell_below n 0 w (drop at s) (need_some (leb n 18) _ w e).1)

pub number_most : (s : List ℕ) (at n w : ℕ) → number_at s at n ≡ Some w → n ≤ 18
unfolding number_at
number_most s at n w e = leb-true n 18 (need_some (leb n 18) _ w e).0

-- ---- what a caller asks of a number that it read, in the form that `search` finds: r is the reader's result

pub told : (s : List ℕ) (at n w : ℕ) (r : Option ℕ) → r ≡ number_at s at n → r ≡ Some w → number_at s at n ≡ Some w
told s at n w r e g = rw (← e, g)

module _ (s : List ℕ) (at n w : ℕ) (r : Option ℕ) (e : r ≡ number_at s at n) (g : r ≡ Some w) where
  -- a place near it is a usize
  pub place_fits : (k : ℕ) → 1 ≤ n → k ≤ 1000 → length s * 1 < 2 ^ 63 → Fits w64 (at + k)
  place_fits k p q h = omega (arith, number_long s at n w (told s at n w r e g) p)

  -- the place past it too
  pub past_fits : 1 ≤ n → length s * 1 < 2 ^ 63 → Fits w64 (at + n)
  past_fits p h = omega (arith, number_long s at n w (told s at n w r e g) p)

  pub value_le : (b : ℕ) → 10 ^ n ≤ b + 1 → w ≤ b
  value_le b h = omega (arith, number_below s at n w (told s at n w r e g))

  -- any number that was read has 18 digits at most
  pub wide_fits : w < 2 ^ 63
  wide_fits =
      omega (arith, number_below s at n w (told s at n w r e g), pow-le-pow_right {n = 10} (omega arith) (number_most s at n w (told s at n w r e g)))

  pub small_fits : n ≤ 2 → Fits w8 w
  small_fits h = omega (arith, number_below s at n w (told s at n w r e g), pow-le-pow_right {n = 10} (omega arith) h)

  pub degrees_fit : n ≤ 3 → Fits w64 (w * 60000)
  degrees_fit h = omega (arith, number_below s at n w (told s at n w r e g), pow-le-pow_right {n = 10} (omega arith) h)

  pub count_fits : (m : ℕ) → n ≤ 3 → m ≤ 59999 → Fits w64 (w * 60000 + m)
  count_fits m h k = omega (arith, number_below s at n w (told s at n w r e g), pow-le-pow_right {n = 10} (omega arith) h)

pub ruleset reads = (place_fits, past_fits, value_le, wide_fits, small_fits, degrees_fit, count_fits, lit≤)

-- ---- a text that is cut out of another: the number at a place of this one

spell_take : (n v : ℕ) (l : List ℕ) → spell n v (take n l) ≡ spell n v l
unfolding spell
spell_take zero v l = refl
spell_take (suc n) v [] = refl
spell_take (suc n) v (b ∷ l) = rw (spell_take n (v * 10 + (b - 48)) l)

-- a text of few digits, all of it
pub number_few : (t : List ℕ) (n : ℕ) → n ≤ 18 → number_at t 0 n ≡ spell n 0 t
unfolding number_at
number_few t n h = rw (le-leb n 18 h)

pub number_cut : (s t : List ℕ) (at n : ℕ) → n ≤ 18 → t ≡ take n (drop at s) → length t ≡ n → spell (length t) 0 t ≡ number_at s at n
unfolding number_at
number_cut s t at n h e g = rw (le-leb n 18 h, g, e) (spell_take n 0 (drop at s))

pub number_short : (s : List ℕ) (at n : ℕ) → n ≤ 18 → length (drop at s) < n → None ≡ number_at s at n
unfolding number_at
number_short s at n h g = rw (le-leb n 18 h) (by (spell n 0 (drop at s)) refl)
  where
    by : (r : Option ℕ) → spell n 0 (drop at s) ≡ r → None ≡ r
    by None e = refl
    by (Some w) e = absurd (omega (arith, spell_long n 0 w (drop at s) e))
