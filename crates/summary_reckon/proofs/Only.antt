-- One answer at most meets the promise of this crate, and the list is afterwards one thing. Assumes nothing.
use Prim.Native.Nat.{ℕ}
use mathlib.Core.List.{List}
use mathlib.Core.Path.{◌≡◌}
use lib.IntN.{ℤ}
use Rattle.track_rules.specs.declared.FixStep.{FixStep}
use Rattle.track_rules.specs.declared.Progress.{Progress}
use Rattle.rules_only.proofs.Told.{result_one}
use Rattle.rules_only.proofs.Only.{OnlyBoth, same, alike}
use Rattle.summary_reckon.specs.Reckoned.{FixesSummed}

pub only_fixes_summed : (step : Progress → FixStep) (start : Progress) (count old : ℕ) (list : List ℤ) → OnlyBoth (FixesSummed step start count old list)
only_fixes_summed step start count old list r r' after after' w w' = (alike result_one r r' w.told w'.told, same after after' w.numbers w'.numbers)
