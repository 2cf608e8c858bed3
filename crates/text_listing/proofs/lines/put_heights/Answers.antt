-- `text_listing::lines::put_heights` meets its contract. Assumes nothing.
use Rattle.text_listing.specs.Lines.{heights_line}
use Rattle.text_pieces.proofs.Laws.{pieces}
use Rattle.text_listing.proofs.lines.put_heights.Goals as goal

pub returns : goal.returns
unfolding heights_line
returns c = search pieces depth 16
