-- One answer at most meets each promise of this crate. Assumes nothing.
use Prim.Native.Nat.{ℕ}
use mathlib.Core.List.{List}
use Rattle.rules.specs.declared.Family.{Family}
use Rattle.rules.specs.declared.Layout.{Layout}
use Rattle.rules_only.proofs.Only.{Only, same}
use Rattle.check_sure.specs.Sure.{PatternGiven, SureTold}

pub only_pattern_given : (l : Layout) → Only (PatternGiven l)
only_pattern_given l = same

pub only_sure_told : (f : Family) (l : List ℕ) (size : ℕ) (pattern : List ℕ) → Only (SureTold f l size pattern)
only_sure_told f l size pattern = same
