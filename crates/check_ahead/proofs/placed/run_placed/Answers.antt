-- `check_ahead::placed::run_placed` meets its contract: at each turn the lines so far are passed, and the numbers are those after them. Assumes nothing.
use Prim.Native.Nat.{◌-◌}
use mathlib.Core.Path.{refl, sym, ap, ◌∙◌}
use native.Mathlib.Omega.{arith}
use borrow.Author.Tests.{not-true, not-false}
use lib.ListN.{length, drop, length-drop}
use lib.Seq.{take_all}
use Rattle.check_table.proofs.Turns.{put_none}
use Rattle.check_ahead.proofs.Strides.{width_few, striding_first, strode_none, striding_next, striding_end}
use Rattle.check_ahead.proofs.placed.run_placed.Goals as goal

pub loop-at-init : goal.loop-at-init
loop-at-init c = striding_first c.requires.2 (sym c.are_few.ensures ∙ not-false _ c.if-not-are_few.false-raw)

pub overflow_add-at : goal.overflow_add-at
overflow_add-at c =
    let l = c.loop-at in
    let t = c.forth-t.ensures c.if-t-gt86399.false in
    let w = width_few _ _ c.line_time-told.ensures (omega (arith, t.0, c.if-t-gt86399.false)) in
    omega (arith, w, c.width.ensures, c.loop-at-test.true, c.requires.0)

pub overflow_add-at-in-loop-at : goal.overflow_add-at-in-loop-at
overflow_add-at-in-loop-at c =
    let t = c.forth-t.ensures c.if-t-gt86399.false in
    let w = width_few _ _ c.line_time-told.ensures (omega (arith, t.0, c.if-t-gt86399.false)) in
    omega (arith, w, c.width.ensures, c.loop-at-test.true, c.requires.0)

pub overflow_add-lines : goal.overflow_add-lines
overflow_add-lines c = omega (arith, c.loop-at.invariant.lines, c.loop-at-test.true, c.requires.0, c.requires.1)

pub more_if-fixes-requires : goal.more_if-fixes-requires
more_if-fixes-requires c = omega (arith, c.loop-at.invariant.fixes, c.loop-at-test.true, c.requires.0)

pub more_if-extras-requires : goal.more_if-extras-requires
more_if-extras-requires c = omega (arith, c.loop-at.invariant.extras, c.loop-at-test.true, c.requires.0)

pub loop-at-smaller : goal.loop-at-smaller
loop-at-smaller c = omega (arith, c.loop-at-test.true)

pub loop-at-preserved : goal.loop-at-preserved
loop-at-preserved c =
    let l = c.loop-at in
    let f = c.args.file.now in
    let t = c.forth-t.ensures c.if-t-gt86399.false in
    rw (c.width.ensures, c.more_if-fixes.ensures, c.more_if-extras.ensures)
    (striding_next l.invariant _ _ (take_all (length f - l.at) (drop l.at f) (simp length-drop (omega arith))) _ _ c.line_time-told.ensures t.0 c.if-t-gt86399.false t.1 _ _ c.put_entry.ensures (not-false _ c.if-not-put_entry.false-raw))

pub returns-then-not-are_few : goal.returns-then-not-are_few
returns-then-not-are_few c = strode_none c.requires.2

pub shape_of-table-then-t-gt86399 : goal.shape_of-table-then-t-gt86399
shape_of-table-then-t-gt86399 c = c.loop-at.invariant.long

pub returns-then-t-gt86399 : goal.returns-then-t-gt86399
returns-then-t-gt86399 c = striding_end c.loop-at.invariant _ refl _ c.pace_by.ensures

pub overflow_cast-at : goal.overflow_cast-at
overflow_cast-at c = omega (arith, c.loop-at-test.true, c.requires.0)

pub shape_of-table-then-not-put_entry : goal.shape_of-table-then-not-put_entry
shape_of-table-then-not-put_entry c = ap length (put_none c.put_entry.ensures (not-true _ c.if-not-put_entry.true-raw)) ∙ c.loop-at.invariant.long

pub returns-then-not-put_entry : goal.returns-then-not-put_entry
returns-then-not-put_entry c = striding_end c.loop-at.invariant _ (put_none c.put_entry.ensures (not-true _ c.if-not-put_entry.true-raw)) _ c.pace_by-then-not-put_entry.ensures

pub shape_of-table : goal.shape_of-table
shape_of-table c = c.loop-at.invariant.long

pub returns : goal.returns
returns c = striding_end c.loop-at.invariant _ refl _ c.pace_by-2.ensures
