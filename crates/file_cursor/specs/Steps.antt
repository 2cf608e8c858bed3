-- A step of the reading place, in the paper's terms.
use Rattle.std.specs.Prelude.{ℕ, List, ◌≡◌, None, Some}
use Rattle.rules.specs.Refusals.{Said, says, refusal}
use Rattle.rules.specs.Split.{Stepped, step_at}
use Rattle.file_cursor.specs.declared.Cursor.{Cursor}
use Rattle.file_cursor.specs.declared.Step.{Step}
use Rattle.file_cursor.specs.declared.Step.TheVariants as step

-- what a step finds, in the paper's terms
unfoldable pub step_told : Step → Said Stepped
step_told (step.Line a e next) = says (record { found = Some (record { from = a; to = e }); next = next.at })
step_told (step.Done next) = says (record { found = None; next = next.at })
step_told (step.Refused r) = refusal r

-- "A reading place over the lines goes in by value and comes back at each step with the next line, or with the news that none is left"
abbrev pub LineStepped : List ℕ → ℕ → Step → Type 0
LineStepped file at r = step_told r ≡ step_at file at

-- before the first line
abbrev pub AtFirst : Cursor → Type 0
AtFirst r = r.at ≡ 0
