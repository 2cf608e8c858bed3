-- `values::head_of` meets its contract. Assumes nothing.
use borrow.Author.Rules.{rules}
use Rattle.c_writers.proofs.values.head_of.Goals as goal

pub returns : goal.returns
returns c = rw c.planned_of.ensures
