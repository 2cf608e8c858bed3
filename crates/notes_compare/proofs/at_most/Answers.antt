-- `notes_compare::at_most` meets its contract: what is left to compare decides as the whole does. Assumes nothing.
use mathlib.Core.Path.{◌∙◌}
use native.Mathlib.Omega.{arith}
use Rattle.notes_compare.proofs.Letters.{letter_inside, most_same}
use Rattle.notes_compare.proofs.at_most.Goals as goal

pub overflow_add-x : goal.overflow_add-x
overflow_add-x c = let h = letter_inside _ _ _ c.in-Some.ensures in omega arith

pub overflow_add-y : goal.overflow_add-y
overflow_add-y c = let h = letter_inside _ _ _ c.in-Some-letter_at.ensures in omega arith

pub loop-b-smaller : goal.loop-b-smaller
loop-b-smaller c = let h = letter_inside _ _ _ c.in-Some.ensures in omega arith

pub loop-b-preserved : goal.loop-b-preserved
loop-b-preserved c = most_same _ _ _ _ _ c.in-Some.ensures _ c.in-Some-letter_at.ensures c.if-b-c.false ∙ c.loop-b.invariant
