-- `summary_slots::flag` meets its contract. Assumes nothing.
use Rattle.summary_slots.specs.Slots.{flag_of}
use Rattle.summary_slots.proofs.flag.Goals as goal

pub returns-then-t : goal.returns-then-t
unfolding flag_of
returns-then-t c = rw c.if-t.true

pub returns-else-t : goal.returns-else-t
unfolding flag_of
returns-else-t c = rw c.if-t.false
