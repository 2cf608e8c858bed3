-- `text_pieces::put_text` meets its contract: the bytes put so far are the front of the text. Assumes nothing.
use Rattle.std.proofs.Common.{add-one}
use lib.Seq.{take-suc}
use Rattle.text_pieces.proofs.Laws.{then}
use Rattle.text_pieces.proofs.put_text.Goals as goal

pub loop-b-preserved : goal.loop-b-preserved
loop-b-preserved c = rw (add-one, take-suc _ _ 0 c.loop-b-test.true) (then c.loop-b.invariant c.put_byte-next.ensures)
