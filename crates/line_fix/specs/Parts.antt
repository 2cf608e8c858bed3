-- What the fields of a B line are read as, and how a field that breaks its rule is refused.
use Rattle.std.specs.Prelude.{ℕ, List, ◌≡◌, Result}
use Rattle.rules.specs.Lines.{fix_fields, at_limit}
use Rattle.rules.specs.Refusals.{reason_of, result_told}
use Rattle.rules.specs.declared.AtLimit.{AtLimit}
use Rattle.rules.specs.declared.Class.{Class}
use Rattle.rules.specs.declared.Refusal.{Refusal}
use Rattle.rules.specs.declared.FixFields.{FixFields}

-- "9 FORM: first field against its rule; line, field's first byte", with 0 for the line number
abbrev pub form_at : Class → ℕ → Refusal
form_at c first = record { reason = reason_of c; line = 0; byte = first }

abbrev pub FormGiven : Class → ℕ → Refusal → Type 0
FormGiven c first r = r ≡ form_at c first

-- the fields of a B line before its columns
abbrev pub FieldsGiven : List ℕ → Result FixFields Refusal → Type 0
FieldsGiven l r = result_told r ≡ fix_fields l

-- which of its coordinates stand at their limit
abbrev pub LimitsGiven : FixFields → AtLimit → Type 0
LimitsGiven f r = r ≡ at_limit f
