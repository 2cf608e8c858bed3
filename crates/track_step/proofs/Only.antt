-- One answer at most meets the promise of this crate. Assumes nothing.
use Prim.Native.Nat.{ℕ}
use mathlib.Core.List.{List}
use Rattle.rules_only.proofs.Only.{Only, same}
use Rattle.track_step.specs.Steps.{FixStepped}
use Rattle.track_rules.specs.declared.Progress.{Progress}

pub only_fix_stepped : (file : List ℕ) (p : Progress) → Only (FixStepped file p)
only_fix_stepped file p = same
