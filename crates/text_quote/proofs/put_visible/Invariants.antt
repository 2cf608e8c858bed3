-- `text_quote::put_visible` meets its contract: the bytes put so far are the front of the text, as it is shown. Assumes nothing.
use mathlib.Core.List.{map}
use lib.ListN.{take}
use Rattle.text_quote.specs.Quote.{visible}
use Rattle.text_pieces.specs.Buffer.{PiecePut}
use Rattle.text_quote.proofs.put_visible.Given as goal

abbrev pub invariant-loop-b : goal.invariant-loop-b
invariant-loop-b l = PiecePut l.initial.out l.at (map visible (take l.b-index l.text)) l.next l.out
