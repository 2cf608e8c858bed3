-- `notes_weave::walk` meets its contract: what is left of both, behind what was put, is the whole. Assumes nothing.
use Prim.Native.Nat.{ℕ}
use mathlib.Core.Path.{refl, sym, ◌∙◌}
use native.Mathlib.Omega.{arith}
use lib.ListN.{length-replicate}
use Rattle.notes_weave.proofs.Turns.{going_first, going_small, going_less, going_next, going_end, over_of}
use Rattle.notes_weave.proofs.walk.Goals as goal

pub loop-ha-init : goal.loop-ha-init
loop-ha-init c = going_first _ _ _ _ _ _ _ _ c.requires.0 c.requires.1 c.requires.2 (length-replicate {A = ℕ} 4096 0) (length-replicate {A = ℕ} 4096 0) refl refl refl refl refl refl

pub slice_bounds-ready-end : goal.slice_bounds-ready-end
slice_bounds-ready-end c = sym c.loop-ha.invariant.room_first

pub ready-x-requires : goal.ready-x-requires
ready-x-requires c = let i = c.loop-ha.invariant in (i.first, omega (arith, i.room_first))

pub slice_bounds-ready-end-in-loop-ha : goal.slice_bounds-ready-end-in-loop-ha
slice_bounds-ready-end-in-loop-ha c = sym c.loop-ha.invariant.room_second

pub ready-y-requires : goal.ready-y-requires
ready-y-requires c = let i = c.loop-ha.invariant in (i.second, omega (arith, i.room_second))

pub shape_of-out-then-is_over : goal.shape_of-out-then-is_over
shape_of-out-then-is_over c = c.loop-ha.invariant.fills.size

pub returns-then-is_over : goal.returns-then-is_over
returns-then-is_over c = going_end _ _ _ _ _ _ _ _ _ _ c.loop-ha.invariant _ _ _ _ c.ready-x.ensures c.ready-y.ensures _ (over_of _ _ _ c.is_over.ensures) c.if-is_over.true

pub slice_bounds-take_turn-end : goal.slice_bounds-take_turn-end
slice_bounds-take_turn-end c = sym (c.ready-x.ensures.size ∙ c.loop-ha.invariant.room_first)

pub slice_bounds-take_turn-end-in-loop-ha : goal.slice_bounds-take_turn-end-in-loop-ha
slice_bounds-take_turn-end-in-loop-ha c = sym (c.ready-y.ensures.size ∙ c.loop-ha.invariant.room_second)

pub take_turn-t-requires : goal.take_turn-t-requires
take_turn-t-requires c = (c.ready-x.ensures.fine, c.ready-y.ensures.fine, (over_of c.ready-x.result c.ready-y.result _ c.is_over.ensures).not_yet c.if-is_over.false, c.requires.0, c.requires.1, going_small _ _ _ _ _ _ _ _ _ _ c.loop-ha.invariant)

pub loop-ha-smaller : goal.loop-ha-smaller
loop-ha-smaller c = going_less _ _ _ _ _ _ _ _ _ _ c.loop-ha.invariant _ _ _ _ c.ready-x.ensures c.ready-y.ensures _ _ _ _ c.take_turn-t.ensures

pub loop-ha-preserved : goal.loop-ha-preserved
loop-ha-preserved c = going_next _ _ _ _ _ _ _ _ _ _ c.loop-ha.invariant _ _ _ _ c.ready-x.ensures c.ready-y.ensures _ _ _ _ c.take_turn-t.ensures
