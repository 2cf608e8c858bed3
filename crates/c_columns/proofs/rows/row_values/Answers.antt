-- `rows::row_values` meets its contract. Assumes nothing.
use borrow.Author.Rules.{rules}
use Rattle.c_columns.proofs.rows.row_values.Goals as goal

pub returns : goal.returns
returns c = rw (← c.one_if-minus.ensures) c.accepted.ensures
