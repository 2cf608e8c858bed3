-- `igc_notice::fit` meets its contract. Assumes nothing.
use borrow.Author.Rules.{rules}
use Rattle.text_pieces.proofs.Laws.{pieces}
use Rattle.igc_notice.proofs.fit.Goals as goal

pub returns : goal.returns
returns c = search pieces depth 16
