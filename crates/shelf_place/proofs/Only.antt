-- One answer at most meets the promise of this crate. Assumes nothing.
use Prim.Native.Nat.{ℕ}
use mathlib.Core.List.{List}
use Rattle.rules_only.proofs.Told.{result_one}
use Rattle.rules_only.proofs.Only.{Only, alike}
use Rattle.shelf_place.specs.Plans.{SpotAllotted}

pub only_spot_allotted : (b : List ℕ) (number size : ℕ) → Only (SpotAllotted b number size)
only_spot_allotted b number size = alike result_one
