-- For each promise of this crate: two answers that meet it are the same. Assumes nothing.
use Prim.Native.Nat.{ℕ}
use mathlib.Core.Path.{◌≡◌, sym, ◌∙◌}
use Rattle.igc_fate.specs.Status.{StatusGiven, WorseGiven}
use Rattle.igc_fate.specs.declared.Fate.{Fate}

pub only_status_given : (fate : Fate) (r r' : ℕ) → StatusGiven fate r → StatusGiven fate r' → r ≡ r'
only_status_given fate r r' e e' = e ∙ sym e'

pub only_worse_given : (a b r r' : ℕ) → WorseGiven a b r → WorseGiven a b r' → r ≡ r'
only_worse_given a b r r' e e' = e ∙ sym e'
