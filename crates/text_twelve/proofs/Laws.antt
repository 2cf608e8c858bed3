-- A number of a list, past its end and by its sign. Assumes nothing.
use Prim.Native.Nat.{ℕ, ◌≤◌}
use mathlib.Core.Bool.{true, false}
use mathlib.Core.List.{List}
use mathlib.Core.Path.{◌≡◌, refl, sym}
use native.Mathlib.Omega.{arith}
use lib.IntN.{ℤ, pos, negsuc, nat_abs}
use lib.ListN.{length, get_or-eq_default}
use lib.Signed.{non_neg}
use Rattle.text_twelve.specs.Twelve.{number, natural}

pub number_past : (l : List ℤ) (i : ℕ) → length l ≤ i → pos 0 ≡ number l i
number_past l i h = sym (get_or-eq_default l (pos 0) {n = i} h)

pub natural_up : (z : ℤ) → non_neg z ≡ true → nat_abs z ≡ natural z
natural_up (pos n) h = refl
natural_up (negsuc n) h = let e : ◌≡◌ {A = ℕ} 0 1 = cc in absurd (omega arith)

pub natural_down : (z : ℤ) → non_neg z ≡ false → 0 ≡ natural z
natural_down (pos n) h = let e : ◌≡◌ {A = ℕ} 0 1 = cc in absurd (omega arith)
natural_down (negsuc n) h = refl
