-- A line whose bytes before the columns are the old ones has the old letter. Assumes nothing.
use Prim.Native.Nat.{ℕ, suc}
use mathlib.Core.List.{List, [], ◌∷◌}
use mathlib.Core.Path.{◌≡◌, refl, sym, ap, ◌∙◌}
use lib.ListN.{get_or, take}
use Rattle.rules.specs.Choice.{byte}
use Rattle.rules.specs.Families.{first_start}
use Rattle.rules.specs.declared.Family.{Family}
use Rattle.rules.specs.declared.Family.TheVariants as family

take_first : (n : ℕ) (l : List ℕ) → get_or (take (suc n) l) 0 0 ≡ get_or l 0 0
take_first n [] = refl
take_first n (b ∷ l) = refl

pub first_kept : (f : Family) (l l' : List ℕ) → take (byte (first_start f)) l' ≡ take (byte (first_start f)) l → get_or l' 0 0 ≡ get_or l 0 0
first_kept family.B l l' e = sym (take_first 34 l') ∙ ap (λ (r : List ℕ). get_or r 0 0) e ∙ take_first 34 l
first_kept (family.Extra x) l l' e = sym (take_first 6 l') ∙ ap (λ (r : List ℕ). get_or r 0 0) e ∙ take_first 6 l
