-- Tests put one after the other: what a whole test says of its parts, and what its parts say of it. Assumes nothing.
use Prim.Native.Nat.{ℕ, ◌≤◌, ◌<◌}
use mathlib.Core.Bool.{Bool, true, false, not, ◌&&◌, ◌||◌, cond}
use mathlib.Core.Logic.{◌⊎◌, inl, inr}
use mathlib.Core.Path.{◌≡◌, refl, sym, ◌∙◌}
use native.Mathlib.Omega.{arith}
use lib.Dec.{eqb, leb}
use borrow.Author.Tests.{eqb-true, eqb-false, leb-true, leb-false, le-leb, lt-leb, eq-eqb, ne_eqb}
use Rattle.rules.proofs.Inverse.{by_bool}

module _ {A : Type 0} where
  -- equal, or not
  pub by_eq : (m n : ℕ) → (m ≡ n → A) → ((m ≡ n → ⊥) → A) → A
  by_eq m n f g = by_bool (eqb m n) (λ e. f (eqb-true m n e)) (λ e. g (eqb-false m n e))

  -- at most, or more
  pub by_le : (m n : ℕ) → (m ≤ n → A) → (n < m → A) → A
  by_le m n f g = by_bool (leb m n) (λ e. f (leb-true m n e)) (λ e. g (leb-false m n e))

pub or_cases : (s t : Bool) → (s || t) ≡ true → (s ≡ true) ⊎ (t ≡ true)
or_cases true t e = inl refl
or_cases false t e = inr e

pub or_left : (s t : Bool) → s ≡ true → (s || t) ≡ true
or_left s t e = rw e

pub or_right : (s t : Bool) → t ≡ true → (s || t) ≡ true
or_right true t e = refl
or_right false t e = e

pub both : (s t : Bool) → s ≡ true → t ≡ true → (s && t) ≡ true
both s t e g = rw (e, g)

-- ---- a function that tests one thing after the other, in the form that `search` finds: x is its answer

pub and_yes : (s t x : Bool) → s ≡ true → x ≡ t → x ≡ (s && t)
and_yes s t x e g = rw e g

pub and_no : (s t x : Bool) → s ≡ false → x ≡ false → x ≡ (s && t)
and_no s t x e g = rw e g

pub or_yes : (s t x : Bool) → s ≡ true → x ≡ true → x ≡ (s || t)
or_yes s t x e g = rw e g

pub or_no : (s t x : Bool) → s ≡ false → x ≡ t → x ≡ (s || t)
or_no s t x e g = rw e g

pub cond_yes : {A : Type 0} (s : Bool) (x a b : A) → s ≡ true → x ≡ a → x ≡ cond s a b
cond_yes s x a b e g = rw e g

pub cond_no : {A : Type 0} (s : Bool) (x a b : A) → s ≡ false → x ≡ b → x ≡ cond s a b
cond_no s x a b e g = rw e g

pub told_true : (s t : Bool) → t ≡ s → t ≡ true → s ≡ true
told_true s t e g = sym e ∙ g

pub told_false : (s t : Bool) → t ≡ s → t ≡ false → s ≡ false
told_false s t e g = sym e ∙ g

pub not_not : (s t : Bool) → t ≡ s → not t ≡ true → s ≡ false
not_not s true e g = let z : ◌≡◌ {A = ℕ} 0 1 = cc in absurd (omega arith)
not_not s false e g = sym e

pub not_so : (s t : Bool) → t ≡ s → not t ≡ false → s ≡ true
not_so s true e g = sym e
not_so s false e g = let z : ◌≡◌ {A = ℕ} 0 1 = cc in absurd (omega arith)

pub ruleset tests = (and_yes, and_no, or_yes, or_no, cond_yes, cond_no, told_true, told_false, not_not, not_so, le-leb, lt-leb, eq-eqb, ne_eqb)
