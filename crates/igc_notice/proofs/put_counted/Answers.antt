-- `igc_notice::put_counted` meets its contract. Assumes nothing.
use borrow.Author.Rules.{rules}
use Rattle.text_pieces.proofs.Laws.{pieces}
use Rattle.igc_notice.specs.Notice.{counted}
use Rattle.igc_notice.proofs.put_counted.Goals as goal

pub returns : goal.returns
unfolding counted
returns c = search pieces depth 16
