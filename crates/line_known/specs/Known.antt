-- What is said of a line of a family by a layout that is not tested: where the layout is allowed, what the readers of the line say. The promises of this crate.
use Rattle.std.specs.Prelude.{ℕ, List, ◌≡◌, Result, ⊤}
use Prim.Native.Char.{code}
use Rattle.rules.specs.Families.{line_letter}
use Rattle.rules.specs.Fixes.{finer_of}
use Rattle.rules.specs.Lines.{b_line, extra_line}
use Rattle.rules.specs.Reads.{of_kind, with_entries, fix_reading_told, extra_reading_told}
use Rattle.rules.specs.Refusals.{Said, says, and_then, result_told}
use Rattle.rules.specs.declared.Extra.{Extra}
use Rattle.rules.specs.declared.ExtraReading.{ExtraReading}
use Rattle.rules.specs.declared.Family.TheVariants as family
use Rattle.rules.specs.declared.FixFields.{FixFields}
use Rattle.rules.specs.declared.Fix.{Fix}
use Rattle.rules.specs.declared.FixReading.{FixReading}
use Rattle.rules.specs.declared.Layout.{Layout}
use Rattle.rules.specs.declared.Refusal.{Refusal}
use Rattle.line_finer.specs.Within.{fix_within}

-- each is its namesake of `rules`, fields_said, fix_said and extra_said, without the layout's own test; a fix is made within the limits that an allowed layout keeps to

unfoldable pub fields_known : List ℕ → Layout → Said FixFields
fields_known l layout = of_kind (code "B") l λ _. b_line layout l

unfoldable pub fix_known : List ℕ → Layout → Said Fix
fix_known l layout = and_then (fields_known l layout) λ f. says (fix_within l (finer_of layout) f)

unfoldable pub extra_known : Extra → List ℕ → Layout → Said ℕ
extra_known e l layout = of_kind (line_letter (family.Extra e)) l λ _. extra_line layout l

-- ---- the promises

abbrev pub OfKind : ℕ → List ℕ → Result ⊤ Refusal → Type 0
OfKind letter l r = result_told r ≡ of_kind letter l λ _. says tt

abbrev pub FixKnown : List ℕ → Layout → Result FixReading Refusal → Type 0
FixKnown l layout r = fix_reading_told r ≡ with_entries layout (fix_known l layout)

abbrev pub ExtraKnown : Extra → List ℕ → Layout → Result ExtraReading Refusal → Type 0
ExtraKnown e l layout r = extra_reading_told r ≡ with_entries layout (extra_known e l layout)
