-- What stands at a place of a line. Assumes nothing.
use Prim.Native.Nat.{ℕ, ◌+◌, ◌<◌}
use mathlib.Core.Bool.{Bool, true, false}
use mathlib.Core.List.{List, ◌∷◌, ◌++◌}
use mathlib.Core.Path.{◌≡◌, refl, sym, ◌∙◌, ap}
use native.Mathlib.Nat.{add-zero}
use native.Mathlib.Numerals.{add-one}
use native.Mathlib.Omega.{arith}
use borrow.Author.Tests.{leb-true, leb-false}
use lib.Dec.{leb}
use lib.ListN.{length, get_or, drop, get_or-eq_default}
use lib.Seq.{drop-drop, drop_at, drop-cons, get_or-drop}

-- ---- what stands at a place

-- past a text
pub past : {A : Type 0} (s : List A) (at n to : ℕ) (a r : List A) → length a ≡ n → at + n ≡ to → drop at s ≡ a ++ r → drop to s ≡ r
past s at n to a r long e here = rw (← e, ← drop-drop n at s, here) (drop_at a r n long)

-- a byte that is not the 0 which stands past the end
pub byte_there : (s : List ℕ) (at to x : ℕ) → at + 1 ≡ to → 0 < x → get_or s at 0 ≡ x → drop at s ≡ x ∷ drop to s
byte_there s at to x e p g = go (leb (length s) at) refl
  where
    go : (b : Bool) → leb (length s) at ≡ b → drop at s ≡ x ∷ drop to s
    go true q = let z : ⊥ = omega (arith, get_or-eq_default s 0 (leb-true _ _ q)) in search
    go false q = rw (← e, add-one, ← g) (drop-cons s at 0 (leb-false _ _ q))

pub byte_here : (s : List ℕ) (at x : ℕ) (r : List ℕ) → drop at s ≡ x ∷ r → get_or s at 0 ≡ x
byte_here s at x r e = ap (λ i. get_or s i 0) (sym (add-zero at)) ∙ sym (get_or-drop at s 0 0) ∙ ap (λ l. get_or l 0 0) e
