-- `text_explain::told::put_placed` meets its contract. Assumes nothing.
use borrow.Author.Rules.{rules}
use Rattle.rules.specs.Choice.{bytes}
use Rattle.text_explain.specs.Explanation.{placed}
use Rattle.text_pieces.proofs.Laws.{pieces}
use Rattle.text_explain.proofs.told.put_placed.Goals as goal

pub returns : goal.returns
unfolding placed bytes
returns c = search pieces depth 16
