-- Two lists, element by element. Assumes nothing.
use Prim.Native.Nat.{ℕ, zero, suc, ◌<◌}
use mathlib.Core.List.{List, [], ◌∷◌}
use native.Mathlib.Omega.{arith}
use lib.ListN.{length, get_or}

module _ {A : Type 0} (R : A → A → Type 0) where
  abbrev pub Pairs : List A → List A → Type 0
  Pairs [] [] = Unit {0}
  Pairs [] (y ∷ ys) = ⊥
  Pairs (x ∷ xs) [] = ⊥
  Pairs (x ∷ xs) (y ∷ ys) = R x y × Pairs xs ys

  pub pair_at : (d : A) (xs ys : List A) (n : ℕ) → Pairs xs ys → n < length xs → R (get_or xs n d) (get_or ys n d)
  pair_at d [] [] n h p = absurd (omega arith)
  pair_at d [] (y ∷ ys) n h p = absurd h
  pair_at d (x ∷ xs) [] n h p = absurd h
  pair_at d (x ∷ xs) (y ∷ ys) zero h p = h.0
  pair_at d (x ∷ xs) (y ∷ ys) (suc n) h p = pair_at d xs ys n h.1 (omega arith)
