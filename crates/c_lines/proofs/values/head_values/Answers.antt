-- `values::head_values` meets its contract. Assumes nothing.
use borrow.Author.Rules.{rules}
use Rattle.c_lines.proofs.values.head_values.Goals as goal

pub returns : goal.returns
returns c = rw (← c.planned_date-f.ensures) c.accepted.ensures
