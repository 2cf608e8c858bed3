-- A line whose columns are mild and whose other bytes are read as a time or within bounds has mild bytes alone: digits are mild, and so are the bounds. Assumes nothing.
use Rattle.std.specs.Prelude.{None, Option, Some}
use Prim.Native.Nat.{ℕ, zero, suc, ◌+◌, ◌-◌, ◌*◌, ◌≤◌}
use mathlib.Core.Bool.{Bool, true, false, ◌&&◌, ◌||◌}
use mathlib.Core.List.{List, [], ◌∷◌}
use mathlib.Core.Path.{◌≡◌, refl, sym, ◌∙◌}
use native.Mathlib.Omega.{arith}
use borrow.Author.Tests.{leb-true, le-leb, eq-eqb}
use lib.Dec.{leb}
use lib.ListN.{length, get_or, drop, length-drop}
use Rattle.rules.specs.Families.{first_start}
use Rattle.rules.specs.Choice.{leads, given, need, byte, bytes}
use Rattle.rules.specs.Chars.{is_digit}
use Rattle.rules.specs.Fields.{time_at}
use Rattle.rules.specs.Listed.{is_digits}
use Rattle.rules.specs.Numbers.{spell, number_at}
use Rattle.rules.specs.declared.Family.{Family}
use Rattle.rules.specs.declared.Family.TheVariants as family
use Rattle.byte_number.proofs.Laws.{digit_low, digit_high, cond_some}
use Rattle.byte_sweep.specs.Plain.{is_plain, is_mild, every}
use Rattle.rules.proofs.Inverse.{and_inv}
use Rattle.byte_sweep.proofs.Laws.{plain_mild}
use Rattle.check_front.specs.Front.{between, is_within, lows, highs, nears, is_bounded, is_front}
use Rattle.check_sure.specs.Sure.{keeps_pattern, is_easy, fields_time, clean_time, pattern_time, sure_time}
use Rattle.check_sure.proofs.Laws.{front_time}

-- ---- mild bytes at the front of a text

plain_within : (b : ℕ) → 45 ≤ b → b ≤ 91 → is_mild b ≡ true
unfolding is_plain
plain_within b h k = plain_mild b (rw (le-leb 45 b h, le-leb b 91 k))

digit_mild : (b : ℕ) → is_digit b ≡ true → is_mild b ≡ true
digit_mild b e = plain_within b (omega (arith, digit_low b e)) (omega (arith, digit_high b e))

abbrev pub Mild : ℕ → List ℕ → Type 0
Mild n l = leads is_mild n l ≡ true

digits_mild : (n : ℕ) (l : List ℕ) → leads is_digit n l ≡ true → Mild n l
unfolding leads
digits_mild zero l e = refl
digits_mild (suc n) [] e = e
digits_mild (suc n) (b ∷ l) e = let s = and_inv (is_digit b) (leads is_digit n l) e in rw (digit_mild b s.0) (digits_mild n l s.1)

pub digits_are_mild : (t : List ℕ) → is_digits t ≡ true → every is_mild t ≡ true
unfolding is_digits
digits_are_mild t e = digits_mild (length t) t e

-- what stands behind the first n bytes of a mild text is mild
behind : (n : ℕ) (l : List ℕ) → every is_mild l ≡ true → every is_mild (drop n l) ≡ true
unfolding leads
behind zero l e = e
behind (suc n) [] e = e
behind (suc n) (b ∷ l) e = behind n l (and_inv (is_mild b) (every is_mild l) e).1

-- the first m bytes, and the n bytes behind them
pub joined : (m n : ℕ) (l : List ℕ) → Mild m l → Mild n (drop m l) → Mild (m + n) l
unfolding leads
joined zero n l e f = let k : 0 + n ≡ n = omega arith in rw k f
joined (suc m) n [] e f = let z : ◌≡◌ {A = ℕ} 0 1 = cc in absurd (omega arith)
joined (suc m) n (b ∷ l) e f =
    let k : suc m + n ≡ suc (m + n) = omega arith in
    let s = and_inv (is_mild b) (leads is_mild m l) e in
    rw (k, s.0) (joined m n l s.1 f)

long : (n : ℕ) (l : List ℕ) → Mild n l → n ≤ length l
unfolding leads
long zero l e = omega arith
long (suc n) [] e = let z : ◌≡◌ {A = ℕ} 0 1 = cc in absurd (omega arith)
long (suc n) (b ∷ l) e = let h = long n l (and_inv (is_mild b) (leads is_mild n l) e).1 in omega (arith, h)

-- ---- what is read as a number, and what is within bounds

spelt_mild : (n u v : ℕ) (l : List ℕ) → spell n u l ≡ Some v → Mild n l
unfolding spell leads
spelt_mild zero u v l e = refl
spelt_mild (suc n) u v [] e = let z : ◌≡◌ {A = ℕ} 0 1 = cc in absurd (omega arith)
spelt_mild (suc n) u v (b ∷ l) e =
    let d = cond_some (is_digit b) (spell n (u * 10 + (b - 48)) l) v e in
    rw (digit_mild b d.0) (spelt_mild n (u * 10 + (b - 48)) v l d.1)

-- two digits, where they are asked for, and what is asked after them
two_mild : (l : List ℕ) (at t : ℕ) (f : ℕ → Option ℕ) → given (number_at l at 2) None f ≡ Some t → (v : ℕ) × (f v ≡ Some t) × Mild 2 (drop at l)
unfolding number_at
two_mild l at t f e = by (spell 2 0 (drop at l)) refl e
  where
    by : (o : Option ℕ) → spell 2 0 (drop at l) ≡ o → given o None f ≡ Some t → (v : ℕ) × (f v ≡ Some t) × Mild 2 (drop at l)
    by (Some v) q e = (v, e, spelt_mild 2 0 v (drop at l) q)
    by None q e = let z : ◌≡◌ {A = ℕ} 0 1 = cc in absurd (omega arith)

time_mild : (l : List ℕ) (t : ℕ) → time_at l 1 ≡ Some t → Mild 2 (drop 1 l) × Mild 2 (drop 3 l) × Mild 2 (drop 5 l)
unfolding time_at
time_mild l t e =
    let h = two_mild l 1 t _ e in
    let m = two_mild l 3 t _ h.1 in
    let s = two_mild l 5 t _ m.1 in
    (h.2, m.2, s.2)

between_mild : (low high l : List ℕ) → leads (λ a. leb 45 a) (length low) low ≡ true → leads (λ z. leb z 91) (length low) high ≡ true → between low high l ≡ true → Mild (length low) l
unfolding between leads is_within
between_mild [] high l f g e = refl
between_mild (a ∷ low) [] l f g e = let y : ◌≡◌ {A = ℕ} 0 1 = cc in absurd (omega arith)
between_mild (a ∷ low) (z ∷ high) [] f g e = let y : ◌≡◌ {A = ℕ} 0 1 = cc in absurd (omega arith)
between_mild (a ∷ low) (z ∷ high) (b ∷ l) f g e =
    let p = and_inv (leb 45 a) _ f in
    let q = and_inv (leb z 91) _ g in
    let here = and_inv (leb a b && leb b z) (between low high l) e in
    let both = and_inv (leb a b) (leb b z) here.0 in
    rw (plain_within b (omega (arith, leb-true 45 a p.0, leb-true a b both.0)) (omega (arith, leb-true z 91 q.0, leb-true b z both.1))) (between_mild low high l p.1 q.1 here.1)

front_mild : (l : List ℕ) → is_front l ≡ true → Mild 32 (drop 3 l)
unfolding is_front is_bounded bytes leads
front_mild l e = by _ _ refl refl (and_inv _ _ e).0
  where
    by : (s t : Bool) → between lows highs (drop 3 l) ≡ s → between lows nears (drop 3 l) ≡ t → (s || t) ≡ true → Mild 32 (drop 3 l)
    by true t f g o = between_mild lows highs (drop 3 l) refl refl f
    by false true f g o = between_mild lows nears (drop 3 l) refl refl g
    by false false f g o = let z : ◌≡◌ {A = ℕ} 0 1 = cc in absurd (omega arith)

-- ---- the whole line

first_mild : (l : List ℕ) → is_plain (get_or l 0 0) ≡ true → Mild 1 l
unfolding is_plain leads
first_mild [] e = let z : ◌≡◌ {A = ℕ} 0 1 = cc in absurd (omega arith)
first_mild (b ∷ l) e = rw (plain_mild b e)

ended : (n : ℕ) (l : List ℕ) → Mild n l → every is_mild (drop n l) ≡ true → every is_mild l ≡ true
ended n l e d =
    let r : Mild (n + length (drop n l)) l = joined n (length (drop n l)) l e d in
    let k : n + length (drop n l) ≡ length l = rw length-drop (omega (arith, long n l e)) in
    rw k at r

mild_by : (f : Family) (l : List ℕ) (t : ℕ) → is_easy f l ≡ true → every is_mild (drop (first_start f - 1) l) ≡ true → time_at l 1 ≡ Some t → every is_mild l ≡ true
unfolding is_easy
mild_by family.B l t e d h =
    let s = and_inv (is_plain (get_or l 0 0)) (is_front l) e in
    let three : Mild 3 l = joined 1 2 l (first_mild l s.0) (time_mild l t h).0 in
    ended 35 l (joined 3 32 l three (front_mild l s.1)) d
mild_by (family.Extra x) l t e d h =
    let s = and_inv (is_plain (get_or l 0 0)) true e in
    let p = time_mild l t h in
    let three : Mild 3 l = joined 1 2 l (first_mild l s.0) p.0 in
    let five : Mild 5 l = joined 3 2 l three p.1 in
    ended 7 l (joined 5 2 l five p.2) d

fields_by : (f : Family) (l : List ℕ) → is_easy f l ≡ true → fields_time f l ≡ time_at l 1
unfolding fields_time is_easy
fields_by family.B l e = front_time l (and_inv (is_plain (get_or l 0 0)) (is_front l) e).1
fields_by (family.Extra x) l e = refl

-- such a line's time is all that is left to read
pub easy_time : (f : Family) (l : List ℕ) → is_easy f l ≡ true → every is_mild (drop (first_start f - 1) l) ≡ true → time_at l 1 ≡ clean_time f l
unfolding clean_time
easy_time f l e d = rw (fields_by f l e) (by (time_at l 1) refl (every is_mild l) refl)
  where
    by : (o : Option ℕ) → time_at l 1 ≡ o → (t : Bool) → every is_mild l ≡ t → o ≡ need t None λ _. o
    by None h true m = refl
    by None h false m = refl
    by (Some t) h true m = refl
    by (Some t) h false m = let z : ◌≡◌ {A = Bool} false true = sym m ∙ mild_by f l t e d h in let y : ◌≡◌ {A = ℕ} 0 1 = cc in absurd (omega arith)

-- a line whose columns are not mild is not sure
pub tail_not : (f : Family) (l : List ℕ) → every is_mild (drop (first_start f - 1) l) ≡ false → None ≡ clean_time f l
unfolding clean_time
tail_not f l n = by (every is_mild l) refl
  where
    by : (t : Bool) → every is_mild l ≡ t → None ≡ need t None λ _. fields_time f l
    by true m = let z : ◌≡◌ {A = Bool} false true = sym n ∙ behind (first_start f - 1) l m in let y : ◌≡◌ {A = ℕ} 0 1 = cc in absurd (omega arith)
    by false m = refl

-- ---- the tests in another order

turned : (c m : Bool) (o : Option ℕ) → (need c None λ _. need m None λ _. o) ≡ (need m None λ _. given o None λ t. need c None λ _. Some t)
turned true true (Some t) = refl
turned true true None = refl
turned true false o = refl
turned false true (Some t) = refl
turned false true None = refl
turned false false o = refl

module _ (f : Family) (l : List ℕ) (size : ℕ) (pattern : List ℕ) (r : Option ℕ) (n : length l ≡ size) where
  pub by_digits : is_digits (drop (byte (first_start f)) l) ≡ true → r ≡ clean_time f l → r ≡ sure_time f l size pattern
  unfolding clean_time sure_time
  by_digits d e = e ∙ turned true (every is_mild l) (fields_time f l) ∙ rw (eq-eqb (length l) size n, d)

  pub by_pattern : is_digits (drop (byte (first_start f)) l) ≡ false → r ≡ pattern_time f l pattern → r ≡ sure_time f l size pattern
  unfolding clean_time pattern_time sure_time
  by_pattern d e = e ∙ turned (keeps_pattern l pattern) (every is_mild l) (fields_time f l) ∙ rw (eq-eqb (length l) size n, d)
