-- `igc_notice::put_accepted` meets its contract. Assumes nothing.
use borrow.Author.Rules.{rules}
use Rattle.rules.specs.Choice.{bytes}
use Rattle.text_pieces.proofs.Laws.{pieces}
use Rattle.igc_notice.specs.Notice.{accepted_shown}
use Rattle.igc_notice.proofs.put_accepted.Goals as goal

pub returns : goal.returns
unfolding accepted_shown bytes
returns c = search pieces depth 16
