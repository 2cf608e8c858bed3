-- Digits both ways: what is spelt is the text of its number, and the digits of a number read as it, or as its remainder where they are too few. Assumes nothing.
use Rattle.std.specs.Prelude.{None, Option, Some}
use Prim.Native.Nat.{ℕ, zero, suc, ◌+◌, ◌-◌, ◌*◌, ◌/◌, ◌%◌, ◌^◌, ◌≤◌, ◌<◌}
use mathlib.Core.Bool.{Bool, true, false, cond}
use mathlib.Core.List.{List, [], ◌∷◌, ◌++◌, append_assoc, append-nil}
use mathlib.Core.Path.{◌≡◌, refl, sym, ◌∙◌, ap}
use native.Mathlib.Nat.{add-zero, pow-suc, pow-succ', one-le-pow, div-div-eq-div-mul, div-add-mod', mod-lt, mod-eq_of_lt, mul-add-mod_self_left, mul-le-mul_right, div-lt_iff_lt-mul}
use native.Mathlib.Omega.{arith}
use borrow.Author.Tests.{le-leb, leb-true}
use lib.Dec.{leb}
use lib.ListN.{drop}
use lib.Seq.{drop-drop}
use Rattle.rules.specs.Chars.{is_digit}
use Rattle.rules.specs.Numbers.{spell, number_at, digits_of, pairs_text}
use Rattle.rules.proofs.Inverse.{none_some, need_inv}
use Rattle.rules.proofs.Texts.{digits_length}
use Rattle.rules_trips.proofs.Laws.{past}
use Rattle.rules_trips.proofs.Texts.{are_valid, digit_range, digit_valid, both_valid}
use Rattle.rules_trips.proofs.Trip.{Trip}

-- the first of the digits
pub digits_front : (n v : ℕ) → digits_of (suc n) v ≡ (48 + v / 10 ^ n % 10) ∷ digits_of n v
unfolding digits_of
digits_front zero v = let e : v / 1 ≡ v = omega arith in rw e
digits_front (suc n) v = rw (digits_front n (v / 10), div-div-eq-div-mul, ← pow-succ')

-- digits of two numbers, one behind the other
pub digits_join : (m n a b : ℕ) → b < 10 ^ n → digits_of (m + n) (a * 10 ^ n + b) ≡ digits_of m a ++ digits_of n b
unfolding digits_of
digits_join m zero a b h = let e : a * 1 + b ≡ a = omega arith in rw (add-zero, e) (sym (append-nil (digits_of m a)))
digits_join m (suc n) a b h =
    let g : b < 10 * 10 ^ n = rw pow-succ' at h in
    let s : m + suc n ≡ suc (m + n) = omega arith in
    let p : a * (10 * 10 ^ n) ≡ 10 * (a * 10 ^ n) = omega arith in
    let q : (10 * (a * 10 ^ n) + b) / 10 ≡ a * 10 ^ n + b / 10 = omega arith in
    let r : (10 * (a * 10 ^ n) + b) % 10 ≡ b % 10 = omega arith in
    rw (s, pow-succ', p, q, r, digits_join m n a (b / 10) (omega arith), append_assoc)

-- ---- written, then read

digit_is : (d : ℕ) → d ≤ 9 → is_digit (48 + d) ≡ true
unfolding is_digit
digit_is d h = simp (le-leb 48 (48 + d) (omega arith), le-leb (48 + d) 57 (omega arith))

-- the remainder of one digit more
mod_more : (v p : ℕ) → 0 < p → v / p % 10 * p + v % p ≡ v % (10 * p)
mod_more v p h =
    let q = v / p in
    let low : v % p < p = mod-lt v h in
    let high : q % 10 * p ≤ 9 * p = mul-le-mul_right p (omega arith) in
    let e : 10 * p * (q / 10) + (q % 10 * p + v % p) ≡ v = omega (arith, div-add-mod' v p, ap (λ x. x * p) (div-add-mod' q 10)) in
    sym (ap (λ x. x % (10 * p)) (sym e) ∙ mul-add-mod_self_left (10 * p) (q / 10) (q % 10 * p + v % p) ∙ mod-eq_of_lt (omega arith))

spell_digits : (n v w : ℕ) (l : List ℕ) → spell n w (digits_of n v ++ l) ≡ Some (w * 10 ^ n + v % 10 ^ n)
unfolding spell digits_of
spell_digits zero v w l = let e : w * 1 + v % 1 ≡ w = omega arith in rw e
spell_digits (suc n) v w l =
    let d = v / 10 ^ n % 10 in
    let e : 48 + d - 48 ≡ d = omega arith in
    let p : (w * 10 + d) * 10 ^ n + v % 10 ^ n ≡ w * 10 ^ suc n + v % 10 ^ suc n = rw pow-succ' (omega (arith, mod_more v (10 ^ n) (one-le-pow n 10 (omega arith)))) in
    rw (digits_front n v, digit_is d (omega arith), e, spell_digits n v (w * 10 + d) l, p)

-- digits that stand at a place read as their number, or as its remainder where they are too few
pub number_rest : (s : List ℕ) (at n v : ℕ) (r : List ℕ) → n ≤ 18 → drop at s ≡ digits_of n v ++ r → number_at s at n ≡ Some (v % 10 ^ n)
unfolding number_at
number_rest s at n v r h e = rw (le-leb n 18 h, e, spell_digits n v 0 r) (ap Some (omega arith))

pub number_here : (s : List ℕ) (at n v : ℕ) (r : List ℕ) → n ≤ 18 → v < 10 ^ n → drop at s ≡ digits_of n v ++ r → number_at s at n ≡ Some v
number_here s at n v r h g e = number_rest s at n v r h e ∙ ap Some (mod-eq_of_lt g)

-- ---- read, then written

digits_none : (v : ℕ) → digits_of 0 v ≡ []
unfolding digits_of
digits_none v = refl

spelt : (n w v : ℕ) (l : List ℕ) → spell n w l ≡ Some v → (l ≡ digits_of n v ++ drop n l) × (v / 10 ^ n ≡ w)
unfolding spell
spelt zero w v l e = let g : w ≡ v = cc in (rw digits_none, omega arith)
spelt (suc n) w v [] e = absurd (none_some e)
spelt (suc n) w v (b ∷ l) e =
    let t = cond_inv (is_digit b) (spell n (w * 10 + (b - 48)) l) v e in
    let r = digit_range b t.0 in
    let ih = spelt n (w * 10 + (b - 48)) v l t.1 in
    let f : 48 + v / 10 ^ n % 10 ≡ b = omega (arith, ih.1) in
    (rw (digits_front n v, f) (ap (λ x. b ∷ x) ih.0), rw (pow-suc, ← div-div-eq-div-mul) (omega (arith, ih.1)))
  where
    cond_inv : (t : Bool) (a : Option ℕ) (v : ℕ) → cond t a None ≡ Some v → (t ≡ true) × (a ≡ Some v)
    cond_inv true a v e = (refl, e)
    cond_inv false a v e = absurd (none_some e)

-- a number that was read: its digits stand there
pub number_there : (s : List ℕ) (at n to v : ℕ) → at + n ≡ to → number_at s at n ≡ Some v → (drop at s ≡ digits_of n v ++ drop to s) × (v < 10 ^ n) × (n ≤ 18)
unfolding number_at
number_there s at n to v t e =
    let b = need_inv (leb n 18) None (Some v) _ none_some e in
    let r = spelt n 0 v (drop at s) b.1 in
    let low : v < 1 * 10 ^ n = (div-lt_iff_lt-mul (one-le-pow n 10 (omega arith))).0 (omega (arith, r.1)) in
    (r.0 ∙ ap (λ l. digits_of n v ++ l) (drop-drop n at s ∙ ap (λ i. drop i s) t), omega arith, leb-true n 18 b.0)

-- ---- the trip

pub digits_clean : (n v : ℕ) → are_valid (digits_of n v) ≡ true
unfolding digits_of are_valid
digits_clean zero v = refl
digits_clean (suc n) v =
    both_valid (digits_of n (v / 10)) ((48 + v % 10) ∷ []) (digits_clean n (v / 10)) (rw (digit_valid (48 + v % 10) (digit_is (v % 10) (omega arith))))

-- n digits, up to 18, are a trip for the numbers up to the most that they spell
pub number_trip : (n most : ℕ) → n ≤ 18 → most + 1 ≡ 10 ^ n → Trip (λ s at. number_at s at n) (digits_of n) n (λ v. leb v most)
number_trip n most h m = record {
  long = digits_length n;
  clean = λ v g. digits_clean n v;
  there = λ s at to v t e. (number_there s at n to v t e).0;
  limits = λ s at v e. le-leb v most (omega (arith, (number_there s at n (at + n) v refl e).1));
  here = λ s at v r g e. number_here s at n v r h (omega (arith, leb-true v most g)) e;
}

-- ---- three pairs of digits, as a time and a date have them

-- together they are the digits of one number
pub pairs_join : (a b c : ℕ) → b ≤ 99 → c ≤ 99 → pairs_text a b c ≡ digits_of 6 (a * 10000 + (b * 100 + c))
pairs_join a b c hb hc =
    sym (digits_join 2 4 a (b * 100 + c) (omega arith) ∙ ap (λ l. digits_of 2 a ++ l) (digits_join 2 2 b c (omega arith)))

pub pairs_clean : (a b c : ℕ) → are_valid (pairs_text a b c) ≡ true
pairs_clean a b c = both_valid (digits_of 2 a) _ (digits_clean 2 a) (both_valid (digits_of 2 b) _ (digits_clean 2 b) (digits_clean 2 c))

module _ (s : List ℕ) (at a b c : ℕ) where
  pub pairs_there : (to : ℕ) → at + 6 ≡ to → number_at s at 2 ≡ Some a → number_at s (at + 2) 2 ≡ Some b → number_at s (at + 4) 2 ≡ Some c
      → drop at s ≡ pairs_text a b c ++ drop to s
  pairs_there to t p q r =
      (number_there s at 2 (at + 2) a refl p).0
      ∙ rw ((number_there s (at + 2) 2 (at + 4) b (omega arith) q).0, (number_there s (at + 4) 2 to c (omega arith) r).0) (simp append_assoc)

  pub pairs_here : (r : List ℕ) → a ≤ 99 → b ≤ 99 → c ≤ 99 → drop at s ≡ pairs_text a b c ++ r
      → (number_at s at 2 ≡ Some a) × (number_at s (at + 2) 2 ≡ Some b) × (number_at s (at + 4) 2 ≡ Some c)
  pairs_here r ha hb hc e =
      let e₁ : drop at s ≡ digits_of 2 a ++ (digits_of 2 b ++ (digits_of 2 c ++ r)) = simp append_assoc at e in
      let e₂ = past s at 2 (at + 2) (digits_of 2 a) _ (digits_length 2 a) refl e₁ in
      let e₃ = past s (at + 2) 2 (at + 4) (digits_of 2 b) _ (digits_length 2 b) (omega arith) e₂ in (
        number_here s at 2 a _ (omega arith) (omega arith) e₁,
        number_here s (at + 2) 2 b _ (omega arith) (omega arith) e₂,
        number_here s (at + 4) 2 c r (omega arith) (omega arith) e₃,
      )
