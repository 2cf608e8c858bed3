-- One answer at most meets the promise of this crate. Assumes nothing.
use Prim.Native.Nat.{ℕ}
use mathlib.Core.List.{List}
use Rattle.rules_only.proofs.Only.{Only, same}
use Rattle.shelf_gap.specs.Runs.{PlaceFound}

pub only_place_found : (b : List ℕ) (size : ℕ) → Only (PlaceFound b size)
only_place_found b size = same
