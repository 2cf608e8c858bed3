-- One answer at most meets each promise of this crate. Assumes nothing.
use Prim.Native.Nat.{ℕ}
use Rattle.rules.specs.declared.Layout.{Layout}
use Rattle.rules_only.proofs.Only.{Only, same}
use Rattle.layout_coded.specs.Spots.{SpotFound, CarriesTest}

pub only_spot_found : (l : Layout) (x : ℕ) → Only (SpotFound l x)
only_spot_found l x = same

pub only_carries_test : (l : Layout) (x : ℕ) → Only (CarriesTest l x)
only_carries_test l x = same
