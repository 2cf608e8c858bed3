-- What a chain's answer says of its links, and what a test says of its parts. Assumes nothing.
use Rattle.std.specs.Prelude.{None, Option, Some}
use Prim.Native.Nat.{ℕ}
use mathlib.Core.Bool.{Bool, true, false, ◌&&◌, ◌||◌}
use mathlib.Core.Path.{◌≡◌, refl, sym}
use native.Mathlib.Omega.{arith}
use Rattle.rules.specs.Choice.{given, need}
use Rattle.rules.specs.Refusals.{Said, says, refuses, in_line, and_then}

-- ---- a value is no refusal

pub none_some : {A : Type 0} {v : A} → ◌≡◌ {A = Option A} None (Some v) → ⊥
none_some e = let z : ◌≡◌ {A = ℕ} 0 1 = cc in omega arith

pub refuses_says : {A : Type 0} {n l b : ℕ} {v : A} → refuses n l b ≡ says v → ⊥
refuses_says e = let z : ◌≡◌ {A = ℕ} 0 1 = cc in omega arith

pub false_true : false ≡ true → ⊥
false_true e = let z : ◌≡◌ {A = ℕ} 0 1 = cc in omega arith

-- ---- a chain that came to x, and not by its other way a, took each link

pub given_inv : {A B : Type 0} (o : Option A) (a x : B) (f : A → B) → (a ≡ x → ⊥) → given o a f ≡ x → (v : A) × (o ≡ Some v) × (f v ≡ x)
given_inv (Some v) a x f n e = (v, refl, e)
given_inv None a x f n e = absurd (n e)

pub given_none : {A B : Type 0} (o : Option A) (a x : B) (f : A → B) → ((v : A) → f v ≡ x → ⊥) → given o a f ≡ x → (o ≡ None) × (a ≡ x)
given_none (Some v) a x f n e = absurd (n v e)
given_none None a x f n e = (refl, e)

pub need_inv : {A : Type 0} (t : Bool) (a x : A) (f : Unit {0} → A) → (a ≡ x → ⊥) → need t a f ≡ x → (t ≡ true) × (f tt ≡ x)
need_inv true a x f n e = (refl, e)
need_inv false a x f n e = absurd (n e)

pub then_inv : {A B : Type 0} (s : Said A) (w : B) (f : A → Said B) → and_then s f ≡ says w → (v : A) × (s ≡ says v) × (f v ≡ says w)
then_inv (says v) w f e = (v, refl, e)
then_inv (refuses n l b) w f e = absurd (refuses_says e)

-- ---- tests

-- a test holds, or it fails
pub by_bool : {A : Type 0} (t : Bool) → (t ≡ true → A) → (t ≡ false → A) → A
by_bool true f g = f refl
by_bool false f g = g refl

pub and_inv : (a b : Bool) → (a && b) ≡ true → (a ≡ true) × (b ≡ true)
and_inv true b e = (refl, e)
and_inv false b e = absurd (false_true e)

pub or_inv : {A : Type 0} (a b : Bool) → (a || b) ≡ true → (a ≡ true → A) → (b ≡ true → A) → A
or_inv true b e f g = f refl
or_inv false b e f g = g e

pub or_neither : (a b : Bool) → (a || b) ≡ false → (a ≡ false) × (b ≡ false)
or_neither true b e = absurd (false_true (sym e))
or_neither false b e = (refl, e)

-- tests that hold together are one
pub bool_eq : (a b : Bool) → (a ≡ true → b ≡ true) → (b ≡ true → a ≡ true) → a ≡ b
bool_eq true b f g = sym (f refl)
bool_eq false true f g = g refl
bool_eq false false f g = refl

-- ---- a refusal of the line in hand, told with its line

pub in_line_inv : {A : Type 0} (n : ℕ) (s : Said A) (v : A) → in_line n s ≡ says v → s ≡ says v
in_line_inv n (says w) v e = e
in_line_inv n (refuses k l b) v e = absurd (refuses_says e)
