-- `notes_compare::at_most` meets its contract: what is left to compare decides as the whole does. Assumes nothing.
use Prim.Native.Nat.{◌-◌}
use mathlib.Core.Path.{◌≡◌}
use lib.ListN.{length}
use Rattle.notes_rules.specs.Notes.{not_after}
use Rattle.notes_rules.specs.Places.{text_at}
use Rattle.notes_compare.proofs.at_most.Given as goal

abbrev pub invariant-loop-b : goal.invariant-loop-b
invariant-loop-b l = not_after (text_at l.s l.x) (text_at l.t l.y) ≡ not_after (text_at l.s l.i) (text_at l.t l.j)

abbrev pub decreases-loop-b : goal.decreases-loop-b
decreases-loop-b l = length l.s - l.x
