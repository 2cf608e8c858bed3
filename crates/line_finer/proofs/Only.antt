-- One answer at most meets each promise of this crate. Assumes nothing.
use Prim.Native.Nat.{ℕ}
use mathlib.Core.List.{List}
use Rattle.rules.specs.declared.Finer.{Finer}
use Rattle.rules.specs.declared.FixFields.{FixFields}
use Rattle.rules.specs.declared.Layout.{Layout}
use Rattle.rules.specs.declared.Reach.{Reach}
use Rattle.rules_only.proofs.Only.{Only, same}
use Rattle.line_finer.specs.Within.{FinerGiven, DecimalsGiven, FixMade}

pub only_finer_given : (layout : Layout) → Only (FinerGiven layout)
only_finer_given layout = same

pub only_decimals_given : (reach : Reach) → Only (DecimalsGiven reach)
only_decimals_given reach = same

pub only_fix_made : (l : List ℕ) (fine : Finer) (f : FixFields) → Only (FixMade l fine f)
only_fix_made l fine f = same
