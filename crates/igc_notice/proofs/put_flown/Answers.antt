-- `igc_notice::put_flown` meets its contract. Assumes nothing.
use borrow.Author.Rules.{rules}
use Rattle.rules.specs.Choice.{bytes}
use Rattle.text_pieces.proofs.Laws.{pieces}
use Rattle.igc_notice.specs.Notice.{flown_shown}
use Rattle.igc_notice.proofs.put_flown.Goals as goal

pub returns : goal.returns
unfolding flown_shown bytes
returns c = search pieces depth 16
