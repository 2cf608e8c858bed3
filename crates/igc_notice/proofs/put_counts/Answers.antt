-- `igc_notice::put_counts` meets its contract. Assumes nothing.
use borrow.Author.Rules.{rules}
use Rattle.rules.specs.Choice.{bytes}
use Rattle.text_pieces.proofs.Laws.{pieces}
use Rattle.igc_notice.specs.Notice.{counts_shown}
use Rattle.igc_notice.proofs.put_counts.Goals as goal

pub returns : goal.returns
unfolding counts_shown bytes
returns c = search pieces depth 16
