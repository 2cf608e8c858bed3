-- `layout_entry::code_at` meets its contract. Assumes nothing.
use borrow.Author.Tests.{not-true, not-false}
use Rattle.rules.specs.Listed.{code_at}
use Rattle.layout_entry.proofs.code_at.Goals as goal

pub returns-then-not-codes_at : goal.returns-then-not-codes_at
unfolding code_at
returns-then-not-codes_at c = rw (← c.codes_at.ensures, not-true c.codes_at.result c.if-not-codes_at.true-raw)

pub returns : goal.returns
unfolding code_at
returns c =
    rw (← c.codes_at.ensures, not-false c.codes_at.result c.if-not-codes_at.false-raw, c.pack.ensures, c.byte.ensures, c.byte-2.ensures, c.byte-3.ensures)
