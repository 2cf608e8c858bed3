-- What holds along a chain of cases: of whichever way it goes, or of the value, where there is one. Assumes nothing.
use Prim.Native.Nat.{ℕ}
use mathlib.Core.Bool.{Bool, true, false, cond}
use mathlib.Core.Path.{◌≡◌, refl}
use Rattle.rules.specs.Choice.{need}
use Rattle.rules.specs.Refusals.{Said, says, refuses, in_line, and_then}

-- ---- whichever way it goes

module _ {A : Type 0} (P : A → Type 0) where
  pub by_need : (t : Bool) (a : A) (f : Unit {0} → A) → P a → P (f tt) → P (need t a f)
  by_need true a f h g = g
  by_need false a f h g = h

  -- the same, with what the test found
  pub by_test : (t : Bool) (a : A) (f : Unit {0} → A) → (t ≡ false → P a) → (t ≡ true → P (f tt)) → P (need t a f)
  by_test true a f h g = g refl
  by_test false a f h g = h refl

  pub by_cond : (t : Bool) (a b : A) → P a → P b → P (cond t a b)
  by_cond true a b h g = h
  by_cond false a b h g = g

-- ---- of the value, where there is one

module _ {A : Type 0} where
  abbrev pub Sure : (A → Type 0) → Said A → Type 0
  Sure P (says v) = P v
  Sure P (refuses n l b) = Unit {0}

  pub surely : (P : A → Type 0) (s : Said A) (v : A) → s ≡ says v → Sure P s → P v
  surely P s v e h = rw e at h

  pub sure_map : (P Q : A → Type 0) (s : Said A) → ((v : A) → P v → Q v) → Sure P s → Sure Q s
  sure_map P Q (says v) f h = f v h
  sure_map P Q (refuses n l b) f h = tt

module _ {A B : Type 0} where
  -- the line n is refused, or what follows on it
  pub by_line : (P : Said B → Type 0) (Q : A → Type 0) (n : ℕ) (s : Said A) (f : A → Said B) → Sure Q s
      → ((k b : ℕ) → P (refuses k n b)) → ((v : A) → Q v → P (f v)) → P (and_then (in_line n s) f)
  by_line P Q n (says v) f h r g = g v h
  by_line P Q n (refuses k l b) f h r g = r k b
