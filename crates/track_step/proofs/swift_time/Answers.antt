-- `track_step::swift_time` meets its contract. Assumes nothing.
use native.Mathlib.Omega.{arith}
use borrow.Author.Tests.{not-false}
use Rattle.track_step.proofs.Laws.{not_secs}
use Rattle.track_step.proofs.swift_time.Goals as goal

pub returns : goal.returns
returns c = λ t e.
    let q = c.front_time.ensures t e in
    (c.is_at_fix.ensures (not-false _ c.if-not-is_at_fix.false-raw), q.0, q.1)

pub returns-then-not-is_at_fix : goal.returns-then-not-is_at_fix
returns-then-not-is_at_fix c = λ t e. absurd (not_secs t e)

pub overflow_add-end : goal.overflow_add-end
overflow_add-end c = let a = c.is_at_fix.ensures (not-false _ c.if-not-is_at_fix.false-raw) in omega (arith, a.room)

pub slice_bounds-front_time-end : goal.slice_bounds-front_time-end
slice_bounds-front_time-end c = let a = c.is_at_fix.ensures (not-false _ c.if-not-is_at_fix.false-raw) in omega (arith, a.room)
