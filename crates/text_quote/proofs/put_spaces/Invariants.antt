-- `text_quote::put_spaces` meets its contract: so many spaces are put as turns are done. Assumes nothing.
use lib.ListN.{replicate}
use Rattle.text_pieces.specs.Buffer.{PiecePut}
use Rattle.text_quote.proofs.put_spaces.Given as goal

abbrev pub invariant-loop : goal.invariant-loop
invariant-loop l = PiecePut l.initial.out l.at (replicate l.counter 32) l.next l.out
