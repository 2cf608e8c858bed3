-- `check_ahead::run_strides` meets its contract: at each turn, what holds before the run leads to what holds here. Assumes nothing.
use mathlib.Core.Path.{refl, ap, ◌∙◌}
use native.Mathlib.Omega.{arith}
use borrow.Author.Tests.{not-true, not-false}
use lib.ListN.{length}
use Rattle.check_table.proofs.Turns.{put_none}
use Rattle.check_ahead.proofs.Runs.{taken_is, running_first, running_next, running_less, running_end}
use Rattle.check_ahead.proofs.Strides.{strode, running_strode, running_few}
use Rattle.check_ahead.proofs.run_strides.Goals as goal

pub loop-p-init : goal.loop-p-init
loop-p-init c =
    let pre = c.requires in
    running_first _ _ _ _ _ _ c.pace_of-p.ensures pre.0 pre.3 pre.4 pre.5

pub run_placed-p-requires : goal.run_placed-p-requires
run_placed-p-requires c =
    let g = c.loop-p.invariant in
    let pre = c.requires in
    (pre.1, running_few g pre.1 pre.2, g.within)

pub shape_of-table-then-file-p : goal.shape_of-table-then-file-p
shape_of-table-then-file-p c =
    let g = c.loop-p.invariant in
    let pre = c.requires in
    let h = running_strode g pre.6 pre.7 pre.11 pre.12 pre.9 pre.10 c.run_placed-p.ensures in
    h.long

pub returns-then-file-p : goal.returns-then-file-p
returns-then-file-p c =
    let g = c.loop-p.invariant in
    let pre = c.requires in
    let h = running_strode g pre.6 pre.7 pre.11 pre.12 pre.9 pre.10 c.run_placed-p.ensures in
    running_end h _ refl _ c.ahead_at.ensures

pub shape_of-table-in_default : goal.shape_of-table-in_default
shape_of-table-in_default c =
    let g = c.loop-p.invariant in
    let pre = c.requires in
    let h = running_strode g pre.6 pre.7 pre.11 pre.12 pre.9 pre.10 c.run_placed-p.ensures in
    h.long

pub returns-in_default : goal.returns-in_default
returns-in_default c =
    let g = c.loop-p.invariant in
    let pre = c.requires in
    let h = running_strode g pre.6 pre.7 pre.11 pre.12 pre.9 pre.10 c.run_placed-p.ensures in
    running_end h _ refl _ c.ahead_at-in_default.ensures

pub overflow_cast-p : goal.overflow_cast-p
overflow_cast-p c =
    let g = c.loop-p.invariant in
    let pre = c.requires in
    let h = running_strode g pre.6 pre.7 pre.11 pre.12 pre.9 pre.10 c.run_placed-p.ensures in
    omega (arith, h.within, pre.1)

pub shape_of-table-then-not-put_entry : goal.shape_of-table-then-not-put_entry
shape_of-table-then-not-put_entry c =
    let g = c.loop-p.invariant in
    let pre = c.requires in
    let h = running_strode g pre.6 pre.7 pre.11 pre.12 pre.9 pre.10 c.run_placed-p.ensures in
    ap length (put_none c.put_entry.ensures (not-true _ c.if-not-put_entry.true-raw)) ∙ h.long

pub returns-then-not-put_entry : goal.returns-then-not-put_entry
returns-then-not-put_entry c =
    let g = c.loop-p.invariant in
    let pre = c.requires in
    let h = running_strode g pre.6 pre.7 pre.11 pre.12 pre.9 pre.10 c.run_placed-p.ensures in
    running_end h _ (put_none c.put_entry.ensures (not-true _ c.if-not-put_entry.true-raw)) _ c.ahead_at-then-not-put_entry.ensures

pub loop-p-smaller : goal.loop-p-smaller
loop-p-smaller c =
    let g = c.loop-p.invariant in
    let pre = c.requires in
    let h = running_strode g pre.6 pre.7 pre.11 pre.12 pre.9 pre.10 c.run_placed-p.ensures in
    let r = strode g pre.6 pre.7 pre.11 pre.12 pre.9 pre.10 c.run_placed-p.ensures in
    let t = taken_is _ (c.take_line.ensures _ h.going pre.6 pre.7 pre.8) c.in-Some.is in
    omega (arith, r.begun, running_less h t, t.passed.within)

pub loop-p-preserved : goal.loop-p-preserved
loop-p-preserved c =
    let g = c.loop-p.invariant in
    let pre = c.requires in
    let h = running_strode g pre.6 pre.7 pre.11 pre.12 pre.9 pre.10 c.run_placed-p.ensures in
    let t = taken_is _ (c.take_line.ensures _ h.going pre.6 pre.7 pre.8) c.in-Some.is in
    running_next h t _ _ c.put_entry.ensures (not-false _ c.if-not-put_entry.false-raw)

pub shape_of-table : goal.shape_of-table
shape_of-table c = c.loop-p.invariant.long

pub returns : goal.returns
returns c = running_end c.loop-p.invariant _ refl _ c.ahead_at-2.ensures
