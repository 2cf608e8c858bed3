-- `write_line::heads::put_planned` meets its contract. Assumes nothing.
use Rattle.rules.specs.Writes.{planned_text}
use Rattle.write_line.proofs.heads.put_planned.Goals as goal

pub returns-in-Some : goal.returns-in-Some
unfolding planned_text
returns-in-Some c = rw c.in-Some.is c.date.ensures

pub returns-in-None : goal.returns-in-None
unfolding planned_text
returns-in-None c = rw c.in-None.is c.digits.ensures
