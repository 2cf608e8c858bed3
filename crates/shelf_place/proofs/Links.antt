-- Tests of the code in the form that `search` finds, as links of a chain of refusals. Assumes nothing.
use Prim.Native.Nat.{ℕ}
use mathlib.Core.Bool.{Bool, true, false, not}
use mathlib.Core.Path.{◌≡◌}
use native.Mathlib.Omega.{arith}
use borrow.Author.Tests.{eq-eqb, ne_eqb}
use lib.Dec.{eqb}
use Rattle.rules.specs.Choice.{need}

pub need_not : {A : Type 0} (t r : Bool) (x a : A) (f : Unit {0} → A) → r ≡ t → not r ≡ true → x ≡ a → x ≡ need t a f
need_not true r x a f e g h = let z = rw e at g in let w : ◌≡◌ {A = ℕ} 0 1 = cc in absurd (omega arith)
need_not false r x a f e g h = h

pub need_so : {A : Type 0} (t r : Bool) (x a : A) (f : Unit {0} → A) → r ≡ t → not r ≡ false → x ≡ f tt → x ≡ need t a f
need_so true r x a f e g h = h
need_so false r x a f e g h = let z = rw e at g in let w : ◌≡◌ {A = ℕ} 0 1 = cc in absurd (omega arith)

pub need_zero : {A : Type 0} (n : ℕ) (x a : A) (f : Unit {0} → A) → n ≡ 0 → x ≡ a → x ≡ need (not (eqb n 0)) a f
need_zero n x a f e h = rw (eq-eqb n 0 e) h

pub need_other : {A : Type 0} (n : ℕ) (x a : A) (f : Unit {0} → A) → (n ≡ 0 → ⊥) → x ≡ f tt → x ≡ need (not (eqb n 0)) a f
need_other n x a f e h = rw (ne_eqb n 0 e) h

pub not_zero : (n : ℕ) → (n ≡ 0 → ⊥) → not (eqb n 0) ≡ true
not_zero n h = rw (ne_eqb n 0 h)

pub is_zero : (n : ℕ) → n ≡ 0 → not (eqb n 0) ≡ false
is_zero n h = rw (eq-eqb n 0 h)

pub ruleset links = (need_not, need_so, need_zero, need_other)
