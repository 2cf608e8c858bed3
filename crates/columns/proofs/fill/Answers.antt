-- `columns::fill` meets its contract: the rows from each line on give the whole list. Assumes nothing.
use Prim.Native.Nat.{◌-◌, ◌<◌}
use mathlib.Core.Logic.{⊎_elim}
use native.Mathlib.Omega.{arith}
use borrow.Author.Rules.{rules}
use lib.ListN.{length}
use Rattle.file_lines.proofs.Cuts as cuts
use Rattle.columns.proofs.Filling.{ends_so, Filling, filling_first, put_fits, filling_row, filling_over, filling_last}
use Rattle.columns.proofs.fill.Goals.{then-file-at, else-file-at}
use Rattle.columns.proofs.fill.Goals as goal

pub loop-at-init : goal.loop-at-init
loop-at-init c =
    (c.requires.0, filling_first c.args.file.now c.args.letter c.requires.0 c.args.sizes c.args.places.now c.args.list.now c.requires.1 c.requires.2)

pub slice_bounds-put_row-count : goal.slice_bounds-put_row-count
slice_bounds-put_row-count c =
    let a = c.args in
    (cuts.cut _ _ _ (ends_so a.file.now c.loop-at.at a.sizes (omega arith) c.loop-at.invariant.1.sized _ c.end_of-end.ensures)).start

pub slice_bounds-put_row-start : goal.slice_bounds-put_row-start
slice_bounds-put_row-start c =
    let a = c.args in
    let h = cuts.cut _ _ _ (ends_so a.file.now c.loop-at.at a.sizes (omega arith) c.loop-at.invariant.1.sized _ c.end_of-end.ensures) in
    omega (arith, h.start, h.fits)

pub slice_bounds-put_row-end : goal.slice_bounds-put_row-end
slice_bounds-put_row-end c =
    let a = c.args in
    let h = cuts.cut _ _ _ (ends_so a.file.now c.loop-at.at a.sizes (omega arith) c.loop-at.invariant.1.sized _ c.end_of-end.ensures) in
    omega (arith, h.start, h.fits)

pub overflow_add-put : goal.overflow_add-put
overflow_add-put c =
    let a = c.args in
    let q = ends_so a.file.now c.loop-at.at a.sizes (omega arith) c.loop-at.invariant.1.sized _ c.end_of-end.ensures in
    let h = put_fits a.file.now a.letter c.loop-at.invariant.0 a.sizes a.places.now a.list.now c.loop-at.list c.loop-at.at c.loop-at.put c.loop-at.invariant.1 _ q c.if-file-at.true in
    omega (arith, h, c.loop-at.invariant.1.long)

pub overflow_add-at : goal.overflow_add-at
overflow_add-at c =
    let a = c.args in
    let h = cuts.cut _ _ _ (ends_so a.file.now c.loop-at.at a.sizes (omega arith) c.loop-at.invariant.1.sized _ c.end_of-end.ensures) in
    omega (arith, h.fits)

pub loop-at-smaller : goal.loop-at-smaller
loop-at-smaller c =
    let a = c.args in
    let h = cuts.cut _ _ _ (ends_so a.file.now c.loop-at.at a.sizes (omega arith) c.loop-at.invariant.1.sized _ c.end_of-end.ensures) in
    omega (arith, h.start, h.fits)

pub loop-at-preserved : goal.loop-at-preserved
loop-at-preserved c =
    let a = c.args in
    let q = ends_so a.file.now c.loop-at.at a.sizes (omega arith) c.loop-at.invariant.1.sized _ c.end_of-end.ensures in (
      c.loop-at.invariant.0,
      elim c.if-file-at.branch [
        | then-file-at w ↦
            filling_row a.file.now a.letter c.loop-at.invariant.0 a.sizes a.places.now a.list.now c.loop-at.list c.loop-at.at c.loop-at.put c.loop-at.invariant.1 _ q
            w.if-file-at.true _ w.put_row.ensures _ w.list-is _ w.put-is
        | else-file-at w ↦
            filling_over a.file.now a.letter c.loop-at.invariant.0 a.sizes a.places.now a.list.now c.loop-at.list c.loop-at.at c.loop-at.put c.loop-at.invariant.1 _ q
            w.if-file-at.false _ w.list-is _ w.put-is
      ],
    )

pub shape_of-list : goal.shape_of-list
shape_of-list c =
    c.loop-at.invariant.1.long

pub returns : goal.returns
returns c =
    let a = c.args in
    filling_last a.file.now a.letter c.loop-at.invariant.0 a.sizes a.places.now a.list.now c.loop-at.list c.loop-at.at c.loop-at.put c.loop-at.invariant.1 (omega arith)
