-- `text_summary::put_heights` meets its contract. Assumes nothing.
use borrow.Author.Rules.{rules}
use Rattle.text_pieces.proofs.Laws.{then}
use Rattle.text_summary.specs.Outline.{heights_shown}
use Rattle.text_summary.proofs.put_heights.Goals as goal

pub returns : goal.returns
unfolding heights_shown
returns c = search then depth 16
