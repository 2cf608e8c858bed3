-- `c_figures::flight` meets its contract. Assumes nothing.
use borrow.Author.Rules.{rules}
use Rattle.c_figures.proofs.flight.Goals as goal

pub returns : goal.returns
returns c =
    rw (← c.line_length-b.ensures, ← c.line_length-k.ensures, ← c.line_length-n.ensures, ← c.one_if-signed.ensures) c.accepted.ensures
