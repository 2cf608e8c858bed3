-- One answer at most meets each promise of this crate. Assumes nothing.
use Prim.Native.Nat.{ℕ}
use mathlib.Core.List.{List}
use lib.IntN.{ℤ}
use Rattle.rules_only.proofs.Only.{Only, same}
use Rattle.text_twelve.specs.Twelve.{NumberAt, NaturalAt, NoneTest, FlightLasted}

pub only_number_at : (l : List ℤ) (k : ℕ) → Only (NumberAt l k)
only_number_at l k = same

pub only_natural_at : (l : List ℤ) (k : ℕ) → Only (NaturalAt l k)
only_natural_at l k = same

pub only_none_test : (l : List ℤ) (k : ℕ) → Only (NoneTest l k)
only_none_test l k = same

pub only_flight_lasted : (l : List ℤ) → Only (FlightLasted l)
only_flight_lasted l = same
