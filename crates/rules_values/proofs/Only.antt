-- One answer at most meets each promise of this crate. Assumes nothing.
use Prim.Native.Nat.{ℕ}
use mathlib.Core.Bool.{Bool}
use mathlib.Core.Path.{◌≡◌, sym, ◌∙◌}
use Rattle.rules.specs.declared.Height.{Height}
use Rattle.rules.specs.declared.Layout.{Layout}
use Rattle.rules_values.specs.Basics.{NoColumns, NoMinus, MagnitudeGiven}

pub only_no_columns : (r r' : Layout) → NoColumns r → NoColumns r' → r ≡ r'
only_no_columns r r' e e' = e ∙ sym e'

pub only_no_minus : (h : Height) (r r' : Bool) → NoMinus h r → NoMinus h r' → r ≡ r'
only_no_minus h r r' e e' = e ∙ sym e'

pub only_magnitude_given : (h : Height) (r r' : ℕ) → MagnitudeGiven h r → MagnitudeGiven h r' → r ≡ r'
only_magnitude_given h r r' e e' = e ∙ sym e'
