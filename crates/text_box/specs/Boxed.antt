-- The box of a flight as text, each field with a space before it. No document describes it (docs/DECISIONS.md).
use Rattle.std.specs.Prelude.{ℕ, ◌+◌, List, ◌++◌, eqb, ℤ, pos, negsuc, nat_abs}
use Prim.Native.Char.{code}
use Rattle.std.proofs.Math.Bool.{cond}
use Rattle.rules.specs.Choice.{bytes}
use Rattle.rules.specs.declared.FinePosition.{FinePosition}
use Rattle.text_decimals.specs.Decimals.{shown_degrees}
use Rattle.text_twelve.specs.Twelve.{has_position, least_latitude, greatest_latitude, least_longitude, greatest_longitude}

-- a signed count as a position, latitude or longitude: N or S stands for the sign alone, and no letter is shown
abbrev pub point_of : ℤ → FinePosition
point_of (pos n) = record { count = n; letter = code "N"; decimals = 0 }
point_of (negsuc n) = record { count = n + 1; letter = code "S"; decimals = 0 }

-- in degrees with six decimals, as the track shows them
unfoldable pub point_shown : ℤ → List ℕ
point_shown z = shown_degrees (point_of z)

-- ---- the box

module _ (l : List ℤ) where
  -- the least and the greatest
  unfoldable pub latitudes_shown : List ℕ
  latitudes_shown = point_shown (least_latitude l) ++ point_shown (greatest_latitude l)

  unfoldable pub longitudes_shown : List ℕ
  longitudes_shown = point_shown (least_longitude l) ++ point_shown (greatest_longitude l)

  -- a dash for each of these four where no fix is marked A
  unfoldable pub box_shown : List ℕ
  unfolding bytes
  box_shown = cond (eqb (nat_abs (has_position l)) 0) (bytes " - - - -") (latitudes_shown ++ longitudes_shown)
