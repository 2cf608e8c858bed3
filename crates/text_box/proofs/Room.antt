-- A box has at most 132 bytes. Assumes nothing.
use Prim.Native.Nat.{◌≤◌}
use mathlib.Core.Bool.{Bool, true, false, cond}
use mathlib.Core.List.{List, ◌++◌}
use native.Mathlib.Omega.{arith}
use lib.Dec.{eqb}
use lib.IntN.{ℤ, nat_abs}
use lib.ListN.{length, length-append}
use Rattle.rules.specs.Choice.{bytes}
use Rattle.text_decimals.proofs.Room.{degrees_room}
use Rattle.text_twelve.specs.Twelve.{has_position, least_latitude, greatest_latitude, least_longitude, greatest_longitude}
use Rattle.text_box.specs.Boxed.{point_of, point_shown, latitudes_shown, longitudes_shown, box_shown}

module _ (l : List ℤ) where
  latitudes_room : length (latitudes_shown l) ≤ 66
  unfolding latitudes_shown point_shown
  latitudes_room = simp length-append (omega (arith, degrees_room (point_of (least_latitude l)), degrees_room (point_of (greatest_latitude l))))

  longitudes_room : length (longitudes_shown l) ≤ 66
  unfolding longitudes_shown point_shown
  longitudes_room = simp length-append (omega (arith, degrees_room (point_of (least_longitude l)), degrees_room (point_of (greatest_longitude l))))

  pub box_room : length (box_shown l) ≤ 132
  unfolding box_shown bytes
  box_room = by (eqb (nat_abs (has_position l)) 0)
    where
      by : (t : Bool) → length (cond t (bytes " - - - -") (latitudes_shown l ++ longitudes_shown l)) ≤ 132
      by true = omega arith
      by false = simp length-append (omega (arith, latitudes_room, longitudes_room))
