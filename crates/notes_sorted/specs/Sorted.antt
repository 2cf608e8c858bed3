-- Lists in order, over any test `le x y`: x does not come after y. This is what a reader must believe; how such lists are made is in Ways.
use Rattle.std.specs.Prelude.{ℕ, ◌+◌, max, Bool, true, false, cond, ◌&&◌, List, [], ◌∷◌, ◌≡◌}

-- `le` is an order in which any two can be told apart
pub record Total {A : Type 0} (le : A → A → Bool) : Type 0 where
  pub total : (x y : A) → le x y ≡ false → le y x ≡ true
  pub trans : (x y z : A) → le x y ≡ true → le y z ≡ true → le x z ≡ true
  pub antisym : (x y : A) → le x y ≡ true → le y x ≡ true → x ≡ y

module _ {A : Type 0} (le : A → A → Bool) where
  -- 1 where the two are the same, else 0
  unfoldable pub hit : A → A → ℕ
  hit z x = cond (le z x && le x z) 1 0

  -- how often z occurs
  abbrev pub count : A → List A → ℕ
  count z [] = 0
  count z (x ∷ xs) = hit z x + count z xs

  -- none of the list comes before x
  abbrev pub Above : A → List A → Type 0
  Above x [] = Unit {0}
  Above x (y ∷ ys) = (le x y ≡ true) × Above x ys

  -- "in ascending order"
  abbrev pub Sorted : List A → Type 0
  Sorted [] = Unit {0}
  Sorted (x ∷ xs) = Above x xs × Sorted xs

  -- "each kept as often as it occurs in whichever copy has it more often, in ascending order"
  pub record Together (xs ys zs : List A) : Type 0 where
    pub sorted : Sorted zs
    pub kept : (z : A) → count z zs ≡ max (count z xs) (count z ys)
