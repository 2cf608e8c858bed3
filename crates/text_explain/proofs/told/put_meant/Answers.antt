-- `text_explain::told::put_meant` meets its contract. Assumes nothing.
use borrow.Author.Rules.{rules}
use Rattle.rules.specs.Choice.{bytes}
use Rattle.text_explain.specs.Explanation.{meant}
use Rattle.text_pieces.proofs.Laws.{then}
use Rattle.text_explain.proofs.told.put_meant.Goals as goal

pub returns : goal.returns
unfolding meant bytes
returns c =
    then c.put_text-a.ensures (then c.put_meaning-b.ensures (then c.put_begun-c.ensures c.put_byte.ensures))
