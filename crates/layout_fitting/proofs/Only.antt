-- One answer at most meets the promise of this crate. Assumes nothing.
use Prim.Native.Nat.{ℕ}
use mathlib.Core.List.{List}
use Rattle.rules.specs.declared.Layout.{Layout}
use Rattle.rules_only.proofs.Only.{Only, same}
use Rattle.layout_fitting.specs.Fitting.{FitsTest}

pub only_fits_test : (line : List ℕ) (es : Layout) → Only (FitsTest line es)
only_fits_test line es = same
