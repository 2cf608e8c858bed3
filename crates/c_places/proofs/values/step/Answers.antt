-- `values::step` meets its contract. Assumes nothing.
use borrow.Author.Rules.{rules}
use Rattle.file_cursor.specs.Steps.{step_told}
use Rattle.c_places.proofs.values.step.Goals as goal

pub returns-in-Line : goal.returns-in-Line
unfolding step_told
returns-in-Line c = rw (c.in-Line.is, ← c.between.ensures) c.accepted.ensures

pub returns-in-Done : goal.returns-in-Done
unfolding step_told
returns-in-Done c = rw c.in-Done.is c.accepted-in-Done.ensures

pub returns-in-Refused : goal.returns-in-Refused
unfolding step_told
returns-in-Refused c = rw c.in-Refused.is c.refused.ensures
