-- `igc_notice::both` meets its contract. Assumes nothing.
use borrow.Author.Rules.{rules}
use Rattle.rules.specs.Choice.{bytes}
use Rattle.text_pieces.proofs.Laws.{pieces}
use Rattle.igc_notice.proofs.both.Goals as goal

pub returns : goal.returns
unfolding bytes
returns c = search pieces depth 16
