-- An answer that is given, or is of another length; what stands beside it; and numbers stored one after the other. Assumes nothing.
use Rattle.std.specs.Prelude.{min}
use Prim.Native.Nat.{ℕ, zero, suc, ◌+◌, ◌-◌, ◌≤◌, ◌<◌}
use native.Mathlib.Numerals.{add-one}
use native.Mathlib.Omega.{arith}
use mathlib.Core.Bool.{Bool, true, false, ◌&&◌}
use mathlib.Core.List.{List, [], ◌∷◌}
use mathlib.Core.Path.{◌≡◌, refl, sym, ◌∙◌, ap}
use lib.ListN.{length, take, set, get_or}
use lib.Seq.{take-suc, take-suc-set, take_all}
use borrow.Author.Tests.{eq-eqb, ne_eqb}
use Rattle.rules.specs.Refusals.{Said}
use Rattle.c_answers.specs.Answers.{size, filled, accepting, in_numbers, has_room, Answered, AnsweredBeside, AnswerGiven}
use Rattle.c_answers.specs.declared.Numbers.{Numbers}

-- ---- numbers stored one after the other

-- one number more is as it is to be
pub one_more : (l vs : List ℕ) (i : ℕ) → take i l ≡ take i vs → i < length l → i < length vs → take (i + 1) (set l i (get_or vs i 0)) ≡ take (i + 1) vs
one_more l vs i e h k = rw (add-one, take-suc-set l i (get_or vs i 0) h, take-suc vs i 0 k, e)

-- all are
pub all_stored : (l vs : List ℕ) (n i : ℕ) → take i l ≡ take i vs → length l ≡ n → length vs ≡ n → n ≤ i → l ≡ vs
all_stored l vs n i e h k g = sym (take_all i l (omega arith)) ∙ e ∙ take_all i vs (omega arith)

-- ---- values stored behind the first two numbers

filled_more : (n : ℕ) (l : List ℕ) (i : ℕ) → i < n → i < length l → set (filled n (take i l)) i (get_or l i 0) ≡ filled n (take (suc i) l)
filled_more zero l i h k = absurd (omega arith)
filled_more (suc n) [] i h k = absurd (omega arith)
filled_more (suc n) (v ∷ l) zero h k = refl
filled_more (suc n) (v ∷ l) (suc i) h k = ap (λ (m : List ℕ). v ∷ m) (filled_more n l i (omega arith) (omega arith))

filled_enough : (n : ℕ) (l : List ℕ) (i : ℕ) → min (length l) n ≤ i → filled n (take i l) ≡ filled n l
filled_enough zero l i h = refl
filled_enough (suc n) [] zero h = refl
filled_enough (suc n) [] (suc i) h = refl
filled_enough (suc n) (v ∷ l) zero h = absurd (omega arith)
filled_enough (suc n) (v ∷ l) (suc i) h = ap (λ (m : List ℕ). v ∷ m) (filled_enough n l i (omega arith))

module _ (all values : List ℕ) (i : ℕ) (e : all ≡ filled size (0 ∷ 0 ∷ take i values)) where
  -- one value more
  pub value_more : i < size - 2 → i < length values → set all (i + 2) (get_or values i 0) ≡ filled size (0 ∷ 0 ∷ take (i + 1) values)
  value_more h k =
      let m : i + 2 ≡ suc (suc i) = omega arith in
      rw (e, m, add-one) (ap (λ (m : List ℕ). 0 ∷ 0 ∷ m) (filled_more (size - 2) values i h k))

  -- all of them, or as many as there is room for
  pub values_all : min (length values) (size - 2) ≤ i → record { number = 0; values = all } ≡ accepting values
  values_all h = rw (e, filled_enough (size - 2) values i h)

-- ---- an answer given, or of another length

pub no_room : (answer : List ℕ) (n : Numbers) → (length answer ≡ size → ⊥) → Answered (has_room size answer) answer n 17 answer
no_room answer n h = record { number = rw (ne_eqb (length answer) size h); numbers = rw (ne_eqb (length answer) size h) }

pub room : (answer : List ℕ) (n : Numbers) (r : ℕ) (after : List ℕ) → length answer ≡ size → r ≡ n.number → after ≡ n.values → Answered (has_room size answer) answer n r after
room answer n r after h e g = record { number = rw (eq-eqb (length answer) size h) e; numbers = rw (eq-eqb (length answer) size h) g }

-- the numbers that are given are those of what is said
pub same_numbers : (fits : Bool) (answer : List ℕ) (m n : Numbers) (r : ℕ) (after : List ℕ) → m ≡ n → Answered fits answer m r after → Answered fits answer n r after
same_numbers fits answer m n r after e a = rw e at a

module _ {A : Type 0} (fits : Bool) (answer : List ℕ) (values : A → List ℕ) (told said : Said A) (m : Numbers) (r : ℕ) (after : List ℕ) where
  pub given_said : told ≡ said → m ≡ in_numbers values told → Answered fits answer m r after → Answered fits answer (in_numbers values said) r after
  given_said e g a = same_numbers fits answer m _ r after (rw e at g) a

-- ---- one or two numbers stored

module _ {A : Type 0} where
  pub one_set : (l : List A) (x y : A) → length l ≡ 1 → y ≡ x → set l 0 y ≡ x ∷ []
  one_set [] x y h e = let z : ⊥ = omega arith in search
  one_set (a ∷ []) x y h e = rw e
  one_set (a ∷ b ∷ l) x y h e = let z : ⊥ = omega arith in search

  pub two_set : (l : List A) (x y z w : A) → length l ≡ 2 → z ≡ x → w ≡ y → set (set l 0 z) 1 w ≡ x ∷ y ∷ []
  two_set [] x y z w h e g = let n : ⊥ = omega arith in search
  two_set (a ∷ []) x y z w h e g = let n : ⊥ = omega arith in search
  two_set (a ∷ b ∷ []) x y z w h e g = rw (e, g)
  two_set (a ∷ b ∷ c ∷ l) x y z w h e g = let n : ⊥ = omega arith in search

-- ---- an answer with something beside it

module _ {A : Type 0} (k : ℕ) (answer : List ℕ) (beside : List A) where
  -- the answer is of another length, or what stands beside it
  pub neither_room : (length answer ≡ size → ⊥) → (has_room size answer && has_room k beside) ≡ false
  neither_room h = rw (ne_eqb (length answer) size h)

  pub one_room : length answer ≡ size → (length beside ≡ k → ⊥) → (has_room size answer && has_room k beside) ≡ false
  one_room h g = rw (eq-eqb (length answer) size h, ne_eqb (length beside) k g)

  pub both_room : length answer ≡ size → length beside ≡ k → (has_room size answer && has_room k beside) ≡ true
  both_room h g = rw (eq-eqb (length answer) size h, eq-eqb (length beside) k g)

pub fitting : (fits : Bool) (answer : List ℕ) (n : Numbers) (r : ℕ) (after : List ℕ) → fits ≡ true → length answer ≡ size → Answered (has_room size answer) answer n r after → Answered fits answer n r after
fitting fits answer n r after e h a = rw (e ∙ sym (eq-eqb (length answer) size h)) a

pub not_fitting : (fits : Bool) (answer : List ℕ) (n : Numbers) → fits ≡ false → Answered fits answer n 17 answer
not_fitting fits answer n e = rw e (record { number = refl; numbers = refl })

-- ---- a call that answers, and changes what stands beside the answer

module _ {A : Type 0} (answer : List ℕ) (before given : List A) where
  -- an answer of another length: 17, and all is as it was
  pub beside_no_room : (n : Numbers) → (length answer ≡ size → ⊥) → AnsweredBeside (has_room size answer) answer n before given 17 answer before
  beside_no_room n h = record { told = no_room answer n h; lent = rw (ne_eqb (length answer) size h) }

  -- what is told and what is given
  pub beside_room : (m n : Numbers) (r : ℕ) (answer_now : List ℕ) (now : List A) → length answer ≡ size → m ≡ n → AnswerGiven answer m r answer_now → now ≡ given
      → AnsweredBeside (has_room size answer) answer n before given r answer_now now
  beside_room m n r answer_now now h e a g = record { told = same_numbers _ answer m n r answer_now e a; lent = rw (eq-eqb (length answer) size h) g }
