-- `text_summary::put_lasting` meets its contract. Assumes nothing.
use borrow.Author.Rules.{rules}
use Rattle.text_pieces.proofs.Laws.{pieces}
use Rattle.text_summary.specs.Outline.{lasting_shown}
use Rattle.text_summary.proofs.put_lasting.Goals as goal

pub returns : goal.returns
unfolding lasting_shown
returns c = search pieces depth 16
