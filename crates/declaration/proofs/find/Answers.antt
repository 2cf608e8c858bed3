-- `declaration::find` meets its contract: what is left to be looked at from each line on decides. Assumes nothing.
use Prim.Native.Nat.{◌-◌}
use native.Mathlib.Omega.{arith}
use borrow.Author.Rules.{rules}
use lib.ListN.{length}
use Rattle.declaration.proofs.Starting.{Seeking, seeking_first, seeking_last, seeking_broken, seeking_cut, seeking_found, seeking_next}
use Rattle.declaration.proofs.find.Goals as goal

pub returns-in_default : goal.returns-in_default
returns-in_default c = seeking_broken _ _ _ c.loop-at.invariant _ c.line_end.ensures _ c.in_default.is

pub slice_bounds-byte-count : goal.slice_bounds-byte-count
slice_bounds-byte-count c = (seeking_cut _ _ _ c.loop-at.invariant _ c.line_end.ensures _ c.in-At.is).start

pub slice_bounds-byte-start : goal.slice_bounds-byte-start
slice_bounds-byte-start c =
    let h = seeking_cut _ _ _ c.loop-at.invariant _ c.line_end.ensures _ c.in-At.is in
    omega (arith, h.start, h.fits)

pub slice_bounds-byte-end : goal.slice_bounds-byte-end
slice_bounds-byte-end c =
    let h = seeking_cut _ _ _ c.loop-at.invariant _ c.line_end.ensures _ c.in-At.is in
    omega (arith, h.start, h.fits)

pub returns-then-byte-eq67 : goal.returns-then-byte-eq67
returns-then-byte-eq67 c =
    seeking_found _ _ _ c.loop-at.invariant _ c.line_end.ensures _ c.in-At.is
    _ c.byte.ensures c.if-byte-eq67.true

pub overflow_add-lines : goal.overflow_add-lines
overflow_add-lines c = let w = c.loop-at.invariant in omega (arith, w.few)

pub overflow_add-at : goal.overflow_add-at
overflow_add-at c =
    let h = seeking_cut _ _ _ c.loop-at.invariant _ c.line_end.ensures _ c.in-At.is in
    omega (arith, h.fits)

pub loop-at-smaller : goal.loop-at-smaller
loop-at-smaller c =
    let h = seeking_cut _ _ _ c.loop-at.invariant _ c.line_end.ensures _ c.in-At.is in
    omega (arith, h.start, h.fits)

pub loop-at-preserved : goal.loop-at-preserved
loop-at-preserved c =
    seeking_next _ _ _ c.loop-at.invariant _ c.line_end.ensures _ c.in-At.is
    _ c.byte.ensures c.if-byte-eq67.false

pub returns : goal.returns
returns c = seeking_last _ _ _ c.loop-at.invariant (search rules)

pub loop-at-init : goal.loop-at-init
loop-at-init c = seeking_first _
