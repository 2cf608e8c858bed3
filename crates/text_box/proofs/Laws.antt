-- A position by its sign, and a box by whether there is one to tell. Assumes nothing.
use Prim.Native.Nat.{ℕ}
use mathlib.Core.Bool.{Bool, true, false}
use mathlib.Core.List.{List, ◌++◌}
use mathlib.Core.Path.{◌≡◌, sym, ◌∙◌}
use native.Mathlib.Numerals.{add-one}
use native.Mathlib.Omega.{arith}
use lib.Dec.{eqb}
use lib.IntN.{ℤ, pos, negsuc, nat_abs}
use lib.Signed.{non_neg}
use Rattle.rules.specs.Choice.{bytes}
use Rattle.rules.specs.declared.FinePosition.{FinePosition}
use Rattle.text_pieces.specs.Buffer.{PiecePut}
use Rattle.text_twelve.specs.Twelve.{has_position}
use Rattle.text_box.specs.Boxed.{point_of, latitudes_shown, longitudes_shown, box_shown}

-- t is what the test of the sign said, and m the size
pub point_up : (z : ℤ) (t : Bool) (m : ℕ) → t ≡ non_neg z → m ≡ nat_abs z → t ≡ true → ◌≡◌ {A = FinePosition} (record { count = m; letter = 78; decimals = 0 }) (point_of z)
point_up (pos n) t m e f g = rw f
point_up (negsuc n) t m e f g = let z : ◌≡◌ {A = ℕ} 0 1 = cc in absurd (omega arith)

pub point_down : (z : ℤ) (t : Bool) (m : ℕ) → t ≡ non_neg z → m ≡ nat_abs z → t ≡ false → ◌≡◌ {A = FinePosition} (record { count = m; letter = 83; decimals = 0 }) (point_of z)
point_down (pos n) t m e f g = let z : ◌≡◌ {A = ℕ} 0 1 = cc in absurd (omega arith)
point_down (negsuc n) t m e f g = rw (f, add-one)

-- t is what the test of the number said
module _ (out after : List ℕ) (at r : ℕ) (l : List ℤ) (t : Bool) where
  pub no_box : t ≡ eqb (nat_abs (has_position l)) 0 → t ≡ true → PiecePut out at (bytes " - - - -") r after → PiecePut out at (box_shown l) r after
  unfolding box_shown
  no_box e g p = rw (sym e ∙ g) p

  pub some_box : t ≡ eqb (nat_abs (has_position l)) 0 → t ≡ false → PiecePut out at (latitudes_shown l ++ longitudes_shown l) r after → PiecePut out at (box_shown l) r after
  unfolding box_shown
  some_box e g p = rw (sym e ∙ g) p
