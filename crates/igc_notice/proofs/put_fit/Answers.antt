-- `igc_notice::put_fit` meets its contract. Assumes nothing.
use borrow.Author.Rules.{rules}
use Rattle.rules.specs.Choice.{bytes}
use Rattle.text_pieces.proofs.Laws.{pieces}
use Rattle.igc_notice.specs.Notice.{fit_shown}
use Rattle.igc_notice.proofs.put_fit.Goals as goal

pub returns : goal.returns
unfolding fit_shown bytes
returns c = search pieces depth 16
