-- `igc_notice::put_extras` meets its contract. Assumes nothing.
use borrow.Author.Rules.{rules}
use Rattle.rules.specs.Choice.{bytes}
use Rattle.text_pieces.proofs.Laws.{pieces}
use Rattle.igc_notice.specs.Notice.{extras_shown}
use Rattle.igc_notice.proofs.put_extras.Goals as goal

pub returns : goal.returns
unfolding extras_shown bytes
returns c = search pieces depth 16
