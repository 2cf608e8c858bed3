-- How lists in order are made: by putting in one element after the other, by one walk over two lists in order, and in runs. The code goes these ways; that they come to
-- lists in order is proved (proofs/).
use Rattle.std.specs.Prelude.{ℕ, Bool, cond, List, [], ◌∷◌, take}

module _ {A : Type 0} (le : A → A → Bool) where
  -- x put in front of the first that does not come before it
  abbrev pub insert : A → List A → List A
  insert x [] = x ∷ []
  insert x (y ∷ ys) = cond (le x y) (x ∷ y ∷ ys) (y ∷ insert x ys)

  -- the elements put one after the other into a list in order
  abbrev pub into : List A → List A → List A
  into acc [] = acc
  into acc (x ∷ xs) = into (insert x acc) xs

  abbrev pub in_order : List A → List A
  in_order xs = into [] xs

  -- ---- two lists brought together

  -- by one walk over two lists in order: the one that comes first, and what stands in both once
  abbrev pub meet : A → (List A → List A) → List A → List A
  meet x f [] = x ∷ f []
  meet x f (y ∷ ys) = cond (le x y) (x ∷ cond (le y x) (f ys) (f (y ∷ ys))) (y ∷ meet x f ys)

  abbrev pub weave : List A → List A → List A
  weave [] ys = ys
  weave (x ∷ xs) ys = meet x (weave xs) ys

  -- ---- a list put in order in runs

  -- those that come after `last`
  abbrev pub after : A → List A → List A
  after last [] = []
  after last (x ∷ xs) = cond (le x last) (after last xs) (x ∷ after last xs)

  -- and they in order
  unfoldable pub rest : A → List A → List A
  rest last xs = in_order (after last xs)

  -- the first k of them: one more element looked at; all of them
  unfoldable pub keep : ℕ → A → List A → A → List A
  keep k last acc x = cond (le x last) acc (take k (insert x acc))

  abbrev pub gather : ℕ → A → List A → List A → List A
  gather k last acc [] = acc
  gather k last acc (x ∷ xs) = gather k last (keep k last acc x) xs
