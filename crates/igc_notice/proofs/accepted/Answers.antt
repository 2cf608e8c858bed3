-- `igc_notice::accepted` meets its contract. Assumes nothing.
use borrow.Author.Rules.{rules}
use Rattle.text_pieces.proofs.Laws.{pieces}
use Rattle.igc_notice.proofs.accepted.Goals as goal

pub returns : goal.returns
returns c = search pieces depth 16
