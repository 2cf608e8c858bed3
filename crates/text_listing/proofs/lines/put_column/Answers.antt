-- `text_listing::lines::put_column` meets its contract. Assumes nothing.
use borrow.Author.Tests.{le-leb, lt-leb}
use Rattle.text_listing.specs.Lines.{column_line}
use Rattle.text_pieces.proofs.Laws.{nothing}
use Rattle.text_listing.proofs.lines.put_column.Goals as goal

pub returns-then-e-gt16777215 : goal.returns-then-e-gt16777215
unfolding column_line
returns-then-e-gt16777215 c = rw (lt-leb _ 0xFFFFFF c.if-e-gt16777215.true) (nothing _ _)

pub returns : goal.returns
unfolding column_line
returns c = rw (le-leb _ 0xFFFFFF c.if-e-gt16777215.false) c.put_spelt.ensures
