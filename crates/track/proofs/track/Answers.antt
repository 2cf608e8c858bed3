-- `track::track` meets its contract: each turn stores what `stride` found, and what is still to be stored stays what it was. Of `plan` and `stride` the proof knows only that they
-- meet their contracts. Assumes nothing.
use Prim.Native.Nat.{◌+◌, ◌-◌, ◌<◌}
use mathlib.Core.Path.{◌≡◌, refl, sym, subst}
use native.Mathlib.Nat.{zero-add}
use native.Mathlib.Omega.{arith}
use lib.ListN.{length-set}
use Rattle.track_rules.specs.Stored.{stored}
use Rattle.track_step.specs.Steps.{step_of}
use Rattle.track.specs.Tracks.{FileTracked}
use Rattle.track.proofs.Planning.{planned_within}
use Rattle.track.proofs.Storing.{turned, stored_all}
use Rattle.track.proofs.Tracking.{tracked_is}
use Rattle.track.proofs.track.Goals as goal

pub loop-i-init : goal.loop-i-init
loop-i-init c = (planned_within c.args.file.now _ c.plan-p.result c.plan-p.ensures, refl, (let z : c.plan-p.result.count - 0 ≡ c.plan-p.result.count = omega arith in rw (z, zero-add) refl))

pub loop-i-preserved : goal.loop-i-preserved
loop-i-preserved c =
    let g = step_of c.args.file.now in
    let i = c.loop-i.i in
    let n = c.plan-p.result.count in
    let w = c.loop-i.invariant in
    let less : i < n = omega arith in
    let inside : i + (n - i) ≡ n = omega arith in
    let m = turned g c.loop-i.from i (n - i) n c.loop-i.list (stored g c.plan-p.result.start n c.args.list.now) inside less (omega (arith, w.0, w.1)) w.2 in
    let left : m.0 ≡ n - (i + 1) = omega (arith, m.1.1.0) in
    (w.0, simp length-set w.1, rw (c.stride-s.ensures, ← left) m.1.1.1)

pub returns : goal.returns
returns c =
    let g = step_of c.args.file.now in
    let i = c.loop-i.i in
    let n = c.plan-p.result.count in
    let w = c.loop-i.invariant in
    let inside : i + (n - i) ≡ n = omega arith in
    let all = stored_all g c.loop-i.from i (n - i) n c.loop-i.list (stored g c.plan-p.result.start n c.args.list.now) inside (λ less. omega arith) w.2 in
    subst (FileTracked c.args.file.now c.args.list.now c.plan-p.result.answer) (sym all) (tracked_is c.args.file.now c.args.list.now c.plan-p.result c.plan-p.ensures)
