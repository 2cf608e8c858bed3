-- `text_quote::put_visible` meets its contract: the bytes put so far are the front of the text, as it is shown. Assumes nothing.
use lib.Seq.{take_all}
use Rattle.text_pieces.proofs.Laws.{then, nothing}
use Rattle.text_quote.proofs.Pieces.{visible_more}
use Rattle.text_quote.proofs.put_visible.Goals as goal

pub loop-b-init : goal.loop-b-init
loop-b-init c = nothing _ _

pub loop-b-preserved : goal.loop-b-preserved
loop-b-preserved c = rw (visible_more _ _ c.loop-b-test.true, ← c.visible.ensures) (then c.loop-b.invariant c.put_byte-next.ensures)

pub returns : goal.returns
returns c = rw (← take_all c.loop-b.b-index c.args.text.now c.loop-b-test.false) c.loop-b.invariant
