-- The links of a chain: for each way that a definition goes on, a law that takes what the code found to what the definition says. `search links` puts a function's
-- way out together from them. In each, x is the function's answer in the paper's terms, and r what it was told by the function that it called. Assumes nothing.
use Rattle.std.specs.Prelude.{Err, None, Ok, Option, Result, Some}
use Prim.Native.Nat.{ℕ, ◌≤◌, ◌<◌}
use mathlib.Core.Bool.{Bool, true, false, not, cond}
use mathlib.Core.Path.{◌≡◌, refl}
use borrow.Author.Tests.{le-leb, lt-leb, eq-eqb, ne_eqb}
use lib.Dec.{leb, eqb}
use Rattle.rules.specs.Choice.{given, need, on}
use Rattle.rules.specs.Refusals.{Said, says, and_then, refusal, result_told}
use Rattle.rules.specs.declared.Span.{Span}
use Rattle.rules.specs.declared.Refusal.{Refusal}
use Rattle.rules.specs.declared.Date.{Date}
use Rattle.rules.specs.declared.Position.{Position}
use Rattle.rules.specs.declared.Height.{Height}
use Rattle.rules.specs.declared.FixFields.{FixFields}

-- ---- tests

pub need_le : {A : Type 0} (m n : ℕ) (x a : A) (f : Unit {0} → A) → m ≤ n → x ≡ f tt → x ≡ need (leb m n) a f
need_le m n x a f h e = rw (le-leb m n h) e

pub need_gt : {A : Type 0} (m n : ℕ) (x a : A) (f : Unit {0} → A) → n < m → x ≡ a → x ≡ need (leb m n) a f
need_gt m n x a f h e = rw (lt-leb m n h) e

pub need_eq : {A : Type 0} (m n : ℕ) (x a : A) (f : Unit {0} → A) → m ≡ n → x ≡ f tt → x ≡ need (eqb m n) a f
need_eq m n x a f h e = rw (eq-eqb m n h) e

pub need_ne : {A : Type 0} (m n : ℕ) (x a : A) (f : Unit {0} → A) → (m ≡ n → ⊥) → x ≡ a → x ≡ need (eqb m n) a f
need_ne m n x a f h e = rw (ne_eqb m n h) e

pub need_true : {A : Type 0} (t r : Bool) (x a : A) (f : Unit {0} → A) → r ≡ t → r ≡ true → x ≡ f tt → x ≡ need t a f
need_true t r x a f h g e = rw (← h, g) e

pub need_false : {A : Type 0} (t r : Bool) (x a : A) (f : Unit {0} → A) → r ≡ t → r ≡ false → x ≡ a → x ≡ need t a f
need_false t r x a f h g e = rw (← h, g) e

pub need_not_true : {A : Type 0} (t r : Bool) (x a : A) (f : Unit {0} → A) → r ≡ t → r ≡ true → x ≡ a → x ≡ need (not t) a f
need_not_true t r x a f h g e = rw (← h, g) e

pub need_not_false : {A : Type 0} (t r : Bool) (x a : A) (f : Unit {0} → A) → r ≡ t → r ≡ false → x ≡ f tt → x ≡ need (not t) a f
need_not_false t r x a f h g e = rw (← h, g) e

pub cond_le : {A : Type 0} (m n : ℕ) (x a b : A) → m ≤ n → x ≡ a → x ≡ cond (leb m n) a b
cond_le m n x a b h e = rw (le-leb m n h) e

pub cond_gt : {A : Type 0} (m n : ℕ) (x a b : A) → n < m → x ≡ b → x ≡ cond (leb m n) a b
cond_gt m n x a b h e = rw (lt-leb m n h) e

pub cond_eq : {A : Type 0} (m n : ℕ) (x a b : A) → m ≡ n → x ≡ a → x ≡ cond (eqb m n) a b
cond_eq m n x a b h e = rw (eq-eqb m n h) e

pub cond_ne : {A : Type 0} (m n : ℕ) (x a b : A) → (m ≡ n → ⊥) → x ≡ b → x ≡ cond (eqb m n) a b
cond_ne m n x a b h e = rw (ne_eqb m n h) e

pub cond_true : {A : Type 0} (t r : Bool) (x a b : A) → r ≡ t → r ≡ true → x ≡ a → x ≡ cond t a b
cond_true t r x a b h g e = rw (← h, g) e

pub cond_false : {A : Type 0} (t r : Bool) (x a b : A) → r ≡ t → r ≡ false → x ≡ b → x ≡ cond t a b
cond_false t r x a b h g e = rw (← h, g) e

-- what code computed of a value stands for it
pub on_is : {A B : Type 0} (n r : A) (x : B) (f : A → B) → r ≡ n → x ≡ f r → x ≡ on n f
unfolding on
on_is n r x f h e = rw (← h) e

-- ---- answers that are a value or none

module _ {A B : Type 0} where
  pub given_some : (n r : Option A) (v : A) (x a : B) (f : A → B) → r ≡ n → r ≡ Some v → x ≡ f v → x ≡ given n a f
  given_some n r v x a f e g h = rw (← e, g) h

  pub given_none : (n r : Option A) (x a : B) (f : A → B) → r ≡ n → r ≡ None → x ≡ a → x ≡ given n a f
  given_none n r x a f e g h = rw (← e, g) h

-- ---- answers that are a value or a refusal, which is passed on

module _ {A B : Type 0} where
  pub then_ok : (n : Said A) (r : Result A Refusal) (v : A) (x : Said B) (f : A → Said B) → result_told r ≡ n → r ≡ Ok v → x ≡ f v → x ≡ and_then n f
  unfolding result_told
  then_ok n r v x f e g h = rw (← e, g) h

  pub then_err : (n : Said A) (r : Result A Refusal) (w : Refusal) (x : Said B) (f : A → Said B) → result_told r ≡ n → r ≡ Err w → x ≡ refusal w → x ≡ and_then n f
  unfolding result_told
  then_err n r w x f e g h = rw (← e, g) h

pub ruleset tests = (need_le, need_gt, need_eq, need_ne, need_true, need_false, need_not_true, need_not_false, cond_le, cond_gt, cond_eq, cond_ne, cond_true, cond_false, on_is)

pub ruleset fields = (tests, given_some, given_none)

pub ruleset answers = (then_ok, then_err)
