-- One answer at most meets each promise of this crate. Assumes nothing.
use Rattle.std.proofs.Common.{ℕ, List}
use Rattle.rules_only.proofs.Only.{Only, same}
use Rattle.check_places.specs.Places.{FixPlaces, ExtraPlaces, PlacedTest, SecondsGiven}

pub only_fix_places : (pattern : List ℕ) → Only (FixPlaces pattern)
only_fix_places pattern = same

pub only_extra_places : (pattern : List ℕ) → Only (ExtraPlaces pattern)
only_extra_places pattern = same

pub only_placed_test : (l low span other : List ℕ) → Only (PlacedTest l low span other)
only_placed_test l low span other = same

pub only_seconds_given : (l : List ℕ) → Only (SecondsGiven l)
only_seconds_given l = same
