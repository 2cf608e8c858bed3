-- The promises on where a code's column stands, and the answer in the paper's terms.
use Rattle.std.specs.Prelude.{ℕ, Bool, ◌≡◌, Option}
use Rattle.rules.specs.declared.Span.{Span}
use Rattle.rules.specs.Layouts.{look, carries}
use Rattle.rules.specs.declared.Layout.{Layout}

-- where a code's column stands

-- "A column is read by its code": the first and the last byte of the entry that has it
abbrev pub SpotFound : Layout → ℕ → Option Span → Type 0
SpotFound l x r = r ≡ look l x

-- whether an entry has a code
abbrev pub CarriesTest : Layout → ℕ → Bool → Type 0
CarriesTest l x r = r ≡ carries l x
