-- The look into the entries that numbers tell; the promises of this crate.
use Rattle.rules.specs.declared.Refusal.{Refusal}
use Rattle.std.specs.Prelude.{ℕ, List, ◌≡◌, Result}
use Rattle.rules.specs.declared.Span.{Span}
use Rattle.rules.specs.Looks.{look_said, look_number}
use Rattle.rules.specs.Refusals.{Said, and_then, result_told}
use Rattle.rules.specs.declared.Signed.{Signed}
use Rattle.c_entries.specs.Lent.{taken_said}

-- the look into the entries that a reading gave: any line, any numbers
unfoldable pub look_by : List ℕ → List ℕ → List ℕ → Said Span
look_by line ns name = and_then (taken_said ns) λ es. look_said line es name

unfoldable pub number_by : List ℕ → List ℕ → List ℕ → Said Signed
number_by line ns name = and_then (taken_said ns) λ es. look_number line es name

-- ---- the promises

abbrev pub LookBy : List ℕ → List ℕ → List ℕ → Result Span Refusal → Type 0
LookBy line ns name r = result_told r ≡ look_by line ns name

abbrev pub LookNumberBy : List ℕ → List ℕ → List ℕ → Result Signed Refusal → Type 0
LookNumberBy line ns name r = result_told r ≡ number_by line ns name
