-- `text_listing::lines::put_position` meets its contract. Assumes nothing.
use Rattle.text_listing.specs.Lines.{position_shown}
use Rattle.text_pieces.proofs.Laws.{pieces}
use Rattle.text_listing.proofs.lines.put_position.Goals as goal

pub returns : goal.returns
unfolding position_shown
returns c = search pieces depth 16
