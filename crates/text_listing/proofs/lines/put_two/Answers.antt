-- `text_listing::lines::put_two` meets its contract. Assumes nothing.
use Rattle.text_listing.specs.Lines.{two_shown}
use Rattle.text_pieces.proofs.Laws.{pieces}
use Rattle.text_listing.proofs.lines.put_two.Goals as goal

pub returns : goal.returns
unfolding two_shown
returns c = search pieces depth 16
