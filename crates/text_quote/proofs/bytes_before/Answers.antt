-- `text_quote::bytes_before` meets its contract. Assumes nothing.
use borrow.Author.Tests.{le-leb, lt-leb}
use Rattle.text_quote.specs.Quote.{before}
use Rattle.text_quote.proofs.bytes_before.Goals as goal

pub returns-then-byte-le80 : goal.returns-then-byte-le80
unfolding before
returns-then-byte-le80 c = rw (le-leb _ 80 c.if-byte-le80.true)

pub returns : goal.returns
unfolding before
returns c = rw (lt-leb _ 80 c.if-byte-le80.false)
