-- `columns::sizes_of` meets its contract. Assumes nothing.
use borrow.Author.Rules.{rules}
use Rattle.columns.proofs.sizes_of.Goals as goal

pub returns : goal.returns
returns c = rw (c.line_length-b.ensures, c.line_length-k.ensures, c.line_length-n.ensures)
