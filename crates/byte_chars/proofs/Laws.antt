-- Laws of tests: joined by and, or and not; the first element of a list that passes one; and elements that each pass one. Assumes nothing.
use Rattle.std.specs.Prelude.{None, Some, take}
use native.Mathlib.Omega.{arith}
use Prim.Native.Nat.{ℕ, suc, ◌+◌, ◌-◌, ◌≤◌, ◌<◌}
use mathlib.Core.Bool.{Bool, true, false, not, ◌&&◌, ◌||◌}
use mathlib.Core.List.{List, [], ◌∷◌}
use mathlib.Core.Path.{◌≡◌, refl, sym, ◌∙◌}
use native.Mathlib.Numerals.{add-one, sub-one}
use borrow.Author.Tests.{le-leb, lt-leb, eq-eqb, ne_eqb}
use lib.Dec.{leb, eqb}
use lib.ListN.{length, get_or, drop, drop_of_length-le}
use lib.Seq.{drop-cons}
use Rattle.rules.specs.Choice.{first_of, leads}

-- ---- what a test comes to, from what the code found; `search` puts the parts together

pub le_true : (m n : ℕ) → m ≤ n → true ≡ leb m n
le_true m n h = sym (le-leb m n h)

pub gt_false : (m n : ℕ) → n < m → false ≡ leb m n
gt_false m n h = sym (lt-leb m n h)

pub eq_true : (m n : ℕ) → m ≡ n → true ≡ eqb m n
eq_true m n h = sym (eq-eqb m n h)

pub ne_false : (m n : ℕ) → (m ≡ n → ⊥) → false ≡ eqb m n
ne_false m n h = sym (ne_eqb m n h)

pub so_true : (t : Bool) → t ≡ true → true ≡ t
so_true t h = sym h

pub so_false : (t : Bool) → t ≡ false → false ≡ t
so_false t h = sym h

-- r is what a function told of the test
pub told_true : (t r : Bool) → r ≡ t → r ≡ true → true ≡ t
told_true t r e h = sym h ∙ e

pub told_false : (t r : Bool) → r ≡ t → r ≡ false → false ≡ t
told_false t r e h = sym h ∙ e

-- r is the byte that stands there
pub byte_is : (m n r : ℕ) → r ≡ m → r ≡ n → true ≡ eqb m n
byte_is m n r e h = sym (eq-eqb m n (sym e ∙ h))

pub byte_is_not : (m n r : ℕ) → r ≡ m → (r ≡ n → ⊥) → false ≡ eqb m n
byte_is_not m n r e h = sym (ne_eqb m n (λ k. h (e ∙ k)))

pub not_of_true : (t : Bool) → true ≡ t → false ≡ not t
not_of_true t h = rw (← h)

pub not_of_false : (t : Bool) → false ≡ t → true ≡ not t
not_of_false t h = rw (← h)

pub and_true : (p q x : Bool) → true ≡ p → x ≡ q → x ≡ (p && q)
and_true p q x h e = rw (← h) e

pub and_false : (p q : Bool) → false ≡ p → false ≡ (p && q)
and_false p q h = rw (← h)

pub or_true : (p q : Bool) → true ≡ p → true ≡ (p || q)
or_true p q h = rw (← h)

pub or_false : (p q x : Bool) → false ≡ p → x ≡ q → x ≡ (p || q)
or_false p q x h e = rw (← h) e

pub ruleset joined = (le_true, gt_false, eq_true, ne_false, so_true, so_false, not_of_true, not_of_false, and_true, and_false, or_true, or_false)

pub ruleset told = (told_true, told_false)

-- eight tests, the first two as one, in another order
pub ordered : (w a b c d e f : Bool) → (w && (a && c) && (b && f) && (d && e)) ≡ (w && a && b && c && d && e && f)
ordered false a b c d e f = refl
ordered true false b c d e f = refl
ordered true true false true d e f = refl
ordered true true false false d e f = refl
ordered true true true false d e f = refl
ordered true true true true false e true = refl
ordered true true true true false e false = refl
ordered true true true true true true true = refl
ordered true true true true true true false = refl
ordered true true true true true false true = refl
ordered true true true true true false false = refl

-- ---- a step of a look-up: what is looked for stands at the place i, or what comes after it decides

module _ {A B : Type 0} (test : A → Bool) (found : ℕ → A → B) (xs : List A) (d : A) (i n : ℕ) where
  pub hit : i < length xs → test (get_or xs i d) ≡ true → first_of test found (drop i xs) n ≡ Some (found n (get_or xs i d))
  unfolding first_of
  hit h e = rw (drop-cons xs i d h, e)

  pub miss : i < length xs → test (get_or xs i d) ≡ false → first_of test found (drop i xs) n ≡ first_of test found (drop (i + 1) xs) (n + 1)
  unfolding first_of
  miss h e = rw (add-one, add-one, drop-cons xs i d h, e)

  pub past : length xs ≤ i → first_of test found (drop i xs) n ≡ None
  unfolding first_of
  past h = rw (drop_of_length-le xs h)

-- ---- a step of a test of n elements: the element at the place i fails it, or what comes after it decides

module _ {A : Type 0} (test : A → Bool) (xs : List A) (d : A) (i : ℕ) where
  pub leads_more : (n : ℕ) → 0 < n → i < length xs → test (get_or xs i d) ≡ true → leads test n (drop i xs) ≡ leads test (n - 1) (drop (i + 1) xs)
  unfolding leads
  leads_more Prim.Native.Nat.zero p h e = elim p [ ]
  leads_more (suc n) p h e = rw (sub-one, add-one, drop-cons xs i d h, e)

  pub leads_other : (n : ℕ) → 0 < n → i < length xs → test (get_or xs i d) ≡ false → leads test n (drop i xs) ≡ false
  unfolding leads
  leads_other Prim.Native.Nat.zero p h e = elim p [ ]
  leads_other (suc n) p h e = rw (drop-cons xs i d h, e)

-- ---- the first n elements, cut out, or fewer of them

module _ {A : Type 0} (test : A → Bool) where
  pub leads_cut : (n : ℕ) (l : List A) → leads test n l ≡ leads test n (take n l)
  unfolding leads
  leads_cut Prim.Native.Nat.zero l = refl
  leads_cut (suc n) [] = refl
  leads_cut (suc n) (b ∷ l) = rw (leads_cut n l)

  pub leads_past : (n : ℕ) (l : List A) → length l < n → false ≡ leads test n l
  unfolding leads
  leads_past Prim.Native.Nat.zero l h = absurd (omega arith)
  leads_past (suc n) [] h = refl
  leads_past (suc n) (b ∷ l) h = rw (← leads_past n l (omega arith)) (by (test b))
    where
      by : (t : Bool) → false ≡ (t && false)
      by true = refl
      by false = refl
