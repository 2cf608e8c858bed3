-- One answer at most meets each promise of this crate. Assumes nothing.
use Prim.Native.Nat.{ℕ}
use mathlib.Core.List.{List}
use Rattle.rules_only.proofs.Only.{Only, same}
use Rattle.check_front.specs.Front.{BelowTest, FrontTest}

pub only_front_test : (l : List ℕ) → Only (FrontTest l)
only_front_test l = same

pub only_below_test : (hundreds tens : ℕ) → Only (BelowTest hundreds tens)
only_below_test hundreds tens = same
