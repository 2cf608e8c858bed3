-- `text_explain::told::put_head` meets its contract. Assumes nothing.
use borrow.Author.Rules.{rules}
use Rattle.text_explain.specs.Explanation.{head}
use Rattle.text_pieces.proofs.Laws.{pieces}
use Rattle.text_explain.proofs.told.put_head.Goals as goal

pub returns : goal.returns
unfolding head
returns c = search pieces depth 16
