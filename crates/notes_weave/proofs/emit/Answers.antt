-- `notes_weave::emit` meets its contract: what is left of the text, and CR LF. Assumes nothing.
use mathlib.Core.Path.{sym, ◌∙◌}
use native.Mathlib.Omega.{arith}
use Rattle.notes_compare.proofs.Letters.{in_inside}
use Rattle.notes_weave.proofs.Reading.{putting_first, putting_next, putting_end}
use Rattle.notes_weave.proofs.emit.Goals as goal

pub loop-out-init : goal.loop-out-init
loop-out-init c = putting_first _ _ _ _

pub bounds-s-x : goal.bounds-s-x
bounds-s-x c = in_inside _ _ (sym c.in_text.ensures ∙ c.loop-out-test.true)

pub overflow_add-x : goal.overflow_add-x
overflow_add-x c = let h = in_inside _ _ (sym c.in_text.ensures ∙ c.loop-out-test.true) in omega arith

pub overflow_add-to : goal.overflow_add-to
overflow_add-to c = let h = in_inside _ _ (sym c.in_text.ensures ∙ c.loop-out-test.true) in omega (arith, c.loop-out.invariant.small, c.requires)

pub loop-out-smaller : goal.loop-out-smaller
loop-out-smaller c = let h = in_inside _ _ (sym c.in_text.ensures ∙ c.loop-out-test.true) in omega arith

pub loop-out-preserved : goal.loop-out-preserved
loop-out-preserved c = putting_next _ _ _ _ _ _ _ c.loop-out.invariant _ (sym c.in_text.ensures ∙ c.loop-out-test.true) c.byte.ensures

pub overflow_add-to-2 : goal.overflow_add-to-2
overflow_add-to-2 c = omega (arith, c.loop-out.invariant.small, c.requires)

pub overflow_add-result : goal.overflow_add-result
overflow_add-result c = omega (arith, c.loop-out.invariant.small, c.requires)

pub shape_of-out : goal.shape_of-out
shape_of-out c = c.byte-3.ensures.size ∙ c.byte-2.ensures.size ∙ c.loop-out.invariant.fills.size

pub returns : goal.returns
returns c = putting_end _ _ _ _ _ _ _ c.loop-out.invariant _ (sym c.in_text.ensures ∙ c.loop-out-test.false) c.byte-2.ensures _ c.byte-3.ensures
