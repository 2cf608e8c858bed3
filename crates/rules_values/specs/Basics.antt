-- The empty layout, and the sign and the size of an altitude.
use Rattle.std.specs.Prelude.{ℕ, Bool, ◌≡◌, nat_abs}
use Rattle.std.specs.Int.Signed.{non_neg}
use Rattle.rules.specs.Layouts.{empty_layout}
use Rattle.rules.specs.declared.Height.{Height}
use Rattle.rules.specs.declared.Layout.{Layout}

-- the layout of a family with no columns
abbrev pub NoColumns : Layout → Type 0
NoColumns r = r ≡ empty_layout

-- whether an altitude has no minus: it is zero or above
abbrev pub NoMinus : Height → Bool → Type 0
NoMinus h r = r ≡ non_neg h.metres

-- how far it is from zero
abbrev pub MagnitudeGiven : Height → ℕ → Type 0
MagnitudeGiven h r = r ≡ nat_abs h.metres
