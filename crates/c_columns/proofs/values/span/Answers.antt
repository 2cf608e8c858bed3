-- `values::span` meets its contract. Assumes nothing.
use borrow.Author.Rules.{rules}
use Rattle.c_columns.proofs.values.span.Goals as goal

pub returns : goal.returns
returns c = rw (← c.between-start.ensures, ← c.between-length.ensures) c.accepted.ensures
