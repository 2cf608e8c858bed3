-- `check_file::lines::check_lines` meets its contract: at each turn, what is left to check is the whole answer. Assumes nothing.
use Prim.Native.Nat.{◌-◌}
use native.Mathlib.Omega.{arith}
use borrow.Author.Rules.{rules}
use lib.ListN.{length}
use Rattle.check_table.specs.Turns.{Here}
use Rattle.check_table.proofs.Turns.{here_first}
use Rattle.check_file.proofs.Checks.{here_end, here_long, here_on, here_stop}
use Rattle.check_file.proofs.lines.check_lines.Goals as goal

pub shape_of-table-then-file-from : goal.shape_of-table-then-file-from
shape_of-table-then-file-from c =
    let h = c.run_ahead-run.ensures.reach _ _ c.loop-at.invariant in
    h.size

pub returns-then-file-from : goal.returns-then-file-from
returns-then-file-from c =
    let h = c.run_ahead-run.ensures.reach _ _ c.loop-at.invariant in
    here_end h c.requires.0 c.requires.1 c.if-file-from.true _ c.finished.ensures

pub loop-at-smaller : goal.loop-at-smaller
loop-at-smaller c =
    let h = c.run_ahead-run.ensures.reach _ _ c.loop-at.invariant in
    let o = here_on h c.requires.0 c.requires.1 c.if-file-from.false c.take.ensures _ c.in-Ok.is in
    omega (arith, o.less, o.here.within, c.run_ahead-run.ensures.onward)

pub loop-at-preserved : goal.loop-at-preserved
loop-at-preserved c =
    let h = c.run_ahead-run.ensures.reach _ _ c.loop-at.invariant in
    (here_on h c.requires.0 c.requires.1 c.if-file-from.false c.take.ensures _ c.in-Ok.is).here

pub shape_of-table-in-Err : goal.shape_of-table-in-Err
shape_of-table-in-Err c =
    let h = c.run_ahead-run.ensures.reach _ _ c.loop-at.invariant in
    here_long h c.requires.0 c.requires.1 c.if-file-from.false c.take.ensures

pub returns-in-Err : goal.returns-in-Err
returns-in-Err c =
    let h = c.run_ahead-run.ensures.reach _ _ c.loop-at.invariant in
    here_stop h c.requires.0 c.requires.1 c.if-file-from.false c.take.ensures _ c.in-Err.is _ c.refused.ensures

pub returns : goal.returns
returns c = here_end c.loop-at.invariant c.requires.0 c.requires.1 c.loop-at-test.false _ c.finished-2.ensures

pub loop-at-init : goal.loop-at-init
loop-at-init c = here_first _ _ _ _ _ c.start_state-st.ensures

pub shape_of-table : goal.shape_of-table
shape_of-table c = c.loop-at.invariant.size
