-- Document 02, 'A summary beside each flight': the greatest and the least of some numbers, and what they mean.
use Rattle.std.specs.Prelude.{Bool, false, cond, List, [], ◌∷◌, ◌⊎◌, ◌≡◌, ℤ, pos}
use Rattle.std.specs.Int.Signed.{lt_z}
use Rattle.rules.specs.Choice.{Each}

-- is one of these numbers
abbrev pub OneOf : ℤ → List ℤ → Type 0
OneOf z [] = ⊥
OneOf z (y ∷ ys) = (z ≡ y) ⊎ OneOf z ys

-- by an order, where `past a b` says that b lies further out than a
module _ (past : ℤ → ℤ → Bool) where
  -- the one further out, the first where neither is
  abbrev pub outer : ℤ → ℤ → ℤ
  outer a b = cond (past a b) b a

  -- of a number and those behind it
  abbrev pub outmost_from : ℤ → List ℤ → ℤ
  outmost_from a [] = a
  outmost_from a (z ∷ zs) = outmost_from (outer a z) zs

  -- "a number with nothing to tell is 0"
  abbrev pub outmost : List ℤ → ℤ
  outmost [] = pos 0
  outmost (z ∷ zs) = outmost_from z zs

  -- what that means: it is one of the numbers, and none lies further out
  pub record Outmost (z : ℤ) (zs : List ℤ) : Type 0 where
    pub one : OneOf z zs
    pub none : Each (λ (y : ℤ). past z y ≡ false) zs

abbrev pub above : ℤ → ℤ → Bool
above a b = lt_z a b

abbrev pub below : ℤ → ℤ → Bool
below a b = lt_z b a

-- "highest", "greatest"
abbrev pub greatest : List ℤ → ℤ
greatest zs = outmost above zs

-- "lowest", "least"
abbrev pub least : List ℤ → ℤ
least zs = outmost below zs
