-- `notes_compare::is_earlier` meets its contract: by the texts, and then by where they stand. Assumes nothing.
use mathlib.Core.Path.{◌∙◌, sym, ap}
use mathlib.Core.Bool.{not}
use native.Mathlib.Omega.{arith}
use Rattle.notes_rules.proofs.Places.{earlier_up, earlier_down}
use Rattle.notes_compare.proofs.is_earlier.Goals as goal

pub returns-then-i-j : goal.returns-then-i-j
returns-then-i-j c = c.at_most.ensures ∙ sym (earlier_up _ _ _ c.if-i-j.true)

pub returns-else-i-j : goal.returns-else-i-j
returns-else-i-j c = ap not c.at_most-else-i-j.ensures ∙ sym (earlier_down _ _ _ (omega arith))
