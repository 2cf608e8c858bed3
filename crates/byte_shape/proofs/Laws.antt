-- Where the first invalid character can stand, and how long a line of a size is. Assumes nothing.
use Rattle.rules.specs.declared.Refusal.{Refusal}
use Rattle.std.specs.Prelude.{Ok, Option, Result, Some, ⊤}
use Prim.Native.Nat.{ℕ, suc, ◌+◌, ◌≤◌, ◌<◌}
use mathlib.Core.Bool.{Bool, true, false, not, ◌&&◌, cond}
use mathlib.Core.List.{List, [], ◌∷◌}
use mathlib.Core.Path.{◌≡◌, refl, sym, ◌∙◌}
use native.Mathlib.Omega.{arith}
use borrow.Author.Tests.{leb-true}
use lib.Dec.{leb}
use lib.ListN.{length}
use Rattle.rules.specs.Choice.{first_of, need}
use Rattle.rules.specs.Refusals.{says, no, result_told}
use Rattle.rules.specs.Chars.{is_valid, first_invalid, characters}
use Rattle.rules.specs.Lines.{is_sized, shaped}
use Rattle.rules.specs.declared.Reason.TheVariants.{Length}

first_below : (test : ℕ → Bool) (l : List ℕ) (n i : ℕ) → first_of test (λ k b. k) l n ≡ Some i → i < n + length l
unfolding first_of
first_below test [] n i e = let z : ◌≡◌ {A = ℕ} 0 1 = cc in omega arith
first_below test (b ∷ l) n i e = by (test b) e (first_below test l (suc n) i)
  where
    by : (t : Bool) → cond t (Some n) (first_of test (λ k c. k) l (suc n)) ≡ Some i → (first_of test (λ k c. k) l (suc n) ≡ Some i → i < suc n + length l) → i < n + length (b ∷ l)
    by true e h = let g : n ≡ i = cc in omega arith
    by false e h = omega (arith, h e)

and_right : (a b : Bool) → (a && b) ≡ true → b ≡ true
and_right true b e = e
and_right false b e = cc

pub sized_most : (least most : ℕ) (l : List ℕ) → is_sized least most l ≡ true → length l ≤ most
unfolding is_sized
sized_most least most l e = leb-true (length l) most (and_right (leb least (length l)) (leb (length l) most) e)

-- the byte that a refusal names in a line of a size: r is what the search for an invalid one answered, t that the line is of the size
module _ (in_h : Bool) (least most : ℕ) (l : List ℕ) (i : ℕ) (r : Option ℕ) (t : Bool) (e : r ≡ first_invalid in_h l) (g : r ≡ Some i) (s : t ≡ is_sized least most l) (h : t ≡ true) where
  pub byte_within : i + 1 ≤ most
  unfolding first_invalid
  byte_within =
      let f : first_invalid in_h l ≡ Some i = rw (← e, g) in
      omega (arith, first_below (λ b. not (is_valid in_h b)) l 0 i f, sized_most least most l (sym s ∙ h))

-- a line that was accepted is of its size: r is what its check answered
pub accepted_most : (least most : ℕ) (in_h : Bool) (l : List ℕ) (r : Result ⊤ Refusal) → result_told r ≡ shaped least most in_h l → r ≡ (Ok tt) → length l ≤ most
unfolding shaped result_told
accepted_most least most in_h l r e g = by (is_sized least most l) refl (rw g at e)
  where
    by : (t : Bool) → is_sized least most l ≡ t → says tt ≡ need t (no Length 0) (λ _. characters in_h l) → length l ≤ most
    by true s k = sized_most least most l s
    by false s k = let z : ◌≡◌ {A = ℕ} 0 1 = cc in omega arith
