-- `declaration::fill` meets its contract: the points from each line on give the whole list. Assumes nothing.
use Prim.Native.Nat.{◌-◌, ◌*◌, ◌<◌}
use native.Mathlib.Omega.{arith}
use borrow.Author.Rules.{rules}
use lib.ListN.{length}
use Rattle.declaration.proofs.Pointing.{Filling, filling_first, filling_last, filling_broken, filling_cut, filling_next}
use Rattle.declaration.proofs.fill.Goals as goal

pub returns-in_default : goal.returns-in_default
returns-in_default c = filling_broken _ _ _ _ _ _ _ c.loop-i.invariant _ c.line_end.ensures _ c.in_default.is

pub slice_bounds-put_point-count : goal.slice_bounds-put_point-count
slice_bounds-put_point-count c = (filling_cut _ _ _ _ _ _ _ c.loop-i.invariant _ c.line_end.ensures _ c.in-At.is).start

pub slice_bounds-put_point-start : goal.slice_bounds-put_point-start
slice_bounds-put_point-start c =
    let h = filling_cut _ _ _ _ _ _ _ c.loop-i.invariant _ c.line_end.ensures _ c.in-At.is in
    omega (arith, h.start, h.fits)

pub slice_bounds-put_point-end : goal.slice_bounds-put_point-end
slice_bounds-put_point-end c =
    let h = filling_cut _ _ _ _ _ _ _ c.loop-i.invariant _ c.line_end.ensures _ c.in-At.is in
    omega (arith, h.start, h.fits)

pub overflow_mul-i : goal.overflow_mul-i
overflow_mul-i c =
    omega (arith, c.requires)

pub put_point-requires : goal.put_point-requires
put_point-requires c =
    let w = c.loop-i.invariant in
    let h = filling_cut _ _ _ _ _ _ _ w _ c.line_end.ensures _ c.in-At.is in
    let small : length c.args.file.now * 1 < 9223372036854775808 = c.well_formed.0.1 in
    (omega (arith, small, h.start, h.fits), omega (arith, c.requires, w.long))

pub overflow_add-at : goal.overflow_add-at
overflow_add-at c =
    let h = filling_cut _ _ _ _ _ _ _ c.loop-i.invariant _ c.line_end.ensures _ c.in-At.is in
    omega (arith, h.fits)

pub loop-i-preserved : goal.loop-i-preserved
loop-i-preserved c =
    filling_next _ _ _ _ _ _ _ c.loop-i.invariant _ c.line_end.ensures _ c.in-At.is
    (search rules) _ c.put_point.ensures

pub returns : goal.returns
returns c = filling_last _ _ _ _ _ _ _ c.loop-i.invariant (search rules)

pub loop-i-init : goal.loop-i-init
loop-i-init c = filling_first _ _ _ _

pub shape_of-list-in_default : goal.shape_of-list-in_default
shape_of-list-in_default c = c.loop-i.invariant.long

pub shape_of-list : goal.shape_of-list
shape_of-list c = c.loop-i.invariant.long
