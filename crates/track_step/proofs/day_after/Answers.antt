-- `track_step::day_after` meets its contract. Assumes nothing.
use borrow.Author.Tests.{le-leb, lt-leb, lt-ltb, le-ltb}
use Rattle.rules.specs.Order.{passing}
use Rattle.track_step.proofs.day_after.Goals as goal

pub returns-then-before-now : goal.returns-then-before-now
unfolding passing
returns-then-before-now c = simp (le-leb _ _ c.if-before-now.true)

pub returns-then-before-now-gt43200 : goal.returns-then-before-now-gt43200
unfolding passing
returns-then-before-now-gt43200 c = simp (lt-leb _ _ c.if-before-now.false, lt-ltb _ _ c.if-before-now-gt43200.true)

pub returns : goal.returns
unfolding passing
returns c = simp (lt-leb _ _ c.if-before-now.false, le-ltb _ _ c.if-before-now-gt43200.false)
