-- `summary_reckon::fill` meets its contract: what is left to be put and joined from here gives the whole list. Assumes nothing.
use native.Mathlib.Omega.{arith}
use Rattle.track_step.specs.Steps.{step_of}
use Rattle.summary_reckon.proofs.Turning.{runs_up, fills_first, fills_next, fills_last}
use Rattle.summary_reckon.proofs.fill.Goals as goal

pub loop-k-init : goal.loop-k-init
loop-k-init c =
    let a = c.args in
    fills_first (step_of a.file.now) a.start a.count a.keep a.list.now _ c.none.ensures

pub loop-k-preserved : goal.loop-k-preserved
loop-k-preserved c =
    let l = c.loop-k in
    let a = c.args in
    let t = c.turn-whole.ensures in
    fills_next (step_of a.file.now) a.start a.count a.keep a.list.now l.list l.whole l.k l.invariant (omega (arith, c.div_ceil-k-end.ensures, runs_up a.count)) _ _ t.0 t.1

pub returns : goal.returns
returns c =
    let l = c.loop-k in
    let a = c.args in
    fills_last (step_of a.file.now) a.start a.count a.keep a.list.now l.list l.whole l.k l.invariant (omega (arith, c.div_ceil-k-end.ensures, runs_up a.count)) _ c.put_sum.ensures
