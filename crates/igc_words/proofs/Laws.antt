-- Texts that are the same, as `==` tells it. Assumes nothing.
use Rattle.std.specs.Prelude.{ℕ, ◌&&◌, List, [], ◌∷◌, ◌≡◌, nat_eq}
use Rattle.std.proofs.Common.{refl, ap}
use Rattle.std.specs.Cmp.Lexicographic.{pointwise}
use Rattle.igc_words.specs.Words.{same}

pub same_items : (a b : List ℕ) → pointwise nat_eq a b ≡ same a b
unfolding same
same_items [] [] = refl
same_items [] (y ∷ b) = refl
same_items (x ∷ a) [] = refl
same_items (x ∷ a) (y ∷ b) = ap (λ t. nat_eq x y && t) (same_items a b)
