-- Two answers that meet a promise of this crate are the same. Assumes nothing.
use Prim.Native.Nat.{ℕ}
use mathlib.Core.Path.{◌≡◌, sym, ◌∙◌}
use Rattle.byte_tens.specs.Tens.{FewGiven, PowerGiven}

pub only_few_given : (n r r' : ℕ) → FewGiven n r → FewGiven n r' → r ≡ r'
only_few_given n r r' e e' = e ∙ sym e'

pub only_power_given : (n r r' : ℕ) → PowerGiven n r → PowerGiven n r' → r ≡ r'
only_power_given n r r' e e' = e ∙ sym e'
