-- One answer at most meets each promise of this crate. Assumes nothing.
use Rattle.std.specs.Prelude.{None, Option, Some}
use Prim.Native.Nat.{ℕ}
use mathlib.Core.List.{List}
use mathlib.Core.Path.{refl, sym, ap, ◌∙◌}
use Rattle.rules.specs.declared.Bounds.{Bounds}
use Rattle.rules.specs.Split.{Stepped}
use Rattle.rules_only.proofs.Only.{Only, alike}
use Rattle.rules_only.proofs.Told.{OneToOne, by_back, answer_of, refusal_back}
use Rattle.file_cursor.specs.Steps.{step_told, LineStepped, AtFirst}
use Rattle.file_cursor.specs.declared.Cursor.{Cursor}
use Rattle.file_cursor.specs.declared.Step.{Step}
use Rattle.file_cursor.specs.declared.Step.TheVariants as step

cursor_at : ℕ → Cursor
cursor_at n = record { at = n }

step_of : Option Bounds → ℕ → Step
step_of (Some b) next = step.Line b.from b.to (cursor_at next)
step_of None next = step.Done (cursor_at next)

found : Stepped → Step
found s = step_of s.found s.next

step_one : OneToOne step_told
unfolding step_told found step_of cursor_at
step_one = by_back (answer_of found step.Refused) (elim [ step.Line a e next ↦ refl | step.Done next ↦ refl | step.Refused r ↦ ap step.Refused (refusal_back r) ])

pub only_line_stepped : (file : List ℕ) (at : ℕ) → Only (LineStepped file at)
only_line_stepped file at = alike step_one

pub only_at_first : Only AtFirst
unfolding cursor_at
only_at_first r r' e e' = ap cursor_at (e ∙ sym e')
