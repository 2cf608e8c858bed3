-- `text_explain::told::put_called` meets its contract. Assumes nothing.
use borrow.Author.Rules.{rules}
use Rattle.rules.specs.Choice.{bytes}
use Rattle.text_explain.specs.Explanation.{called}
use Rattle.text_pieces.proofs.Laws.{then}
use Rattle.text_explain.proofs.Pieces.{number_fills}
use Rattle.text_explain.proofs.told.put_called.Goals as goal

pub returns : goal.returns
unfolding called bytes
returns c =
    then c.put_text-a.ensures
    (number_fills _ _ c.number-number.ensures c.put_shown-b.ensures (then c.put_byte-c.ensures c.put_name.ensures))
