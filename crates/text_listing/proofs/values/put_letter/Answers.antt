-- `text_listing::values::put_letter` meets its contract. Assumes nothing.
use Rattle.text_pieces.proofs.Laws.{pieces}
use Rattle.text_listing.proofs.values.put_letter.Goals as goal

pub returns : goal.returns
returns c = search pieces depth 8
