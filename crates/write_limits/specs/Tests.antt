-- The promises of the tests that a writer makes of the values given, whether some line that passes 7 to 13 reads as them; and what it has to spell of a fix.
use Rattle.std.specs.Prelude.{ℕ, Bool, List, ◌≡◌}
use Rattle.rules.specs.declared.Layout.{Layout}
use Rattle.rules.specs.declared.FixFields.{FixFields}
use Rattle.rules.specs.declared.Fix.{Fix}
use Rattle.rules.specs.declared.Head.{Head}
use Rattle.rules.specs.Fixes.{fields_of}
use Rattle.rules.specs.Limits.{good_head, good_fix, good_extra}

abbrev pub HeadTest : Head → List ℕ → Bool → Type 0
HeadTest h rest r = r ≡ good_head h rest

-- what is spelt of a fix
abbrev pub FieldsSpelt : Fix → FixFields → Type 0
FieldsSpelt f r = r ≡ fields_of f

abbrev pub FixTest : Fix → List ℕ → Layout → Bool → Type 0
FixTest f tail layout r = r ≡ good_fix f tail layout

abbrev pub ExtraTest : ℕ → List ℕ → Layout → Bool → Type 0
ExtraTest t tail layout r = r ≡ good_extra t tail layout
