-- `text_pieces::put_text` meets its contract: the bytes put so far are the front of the text. Assumes nothing.
use lib.ListN.{take}
use Rattle.text_pieces.specs.Buffer.{PiecePut}
use Rattle.text_pieces.proofs.put_text.Given as goal

abbrev pub invariant-loop-b : goal.invariant-loop-b
invariant-loop-b l = PiecePut l.initial.out l.at (take l.b-index l.text) l.next l.out
