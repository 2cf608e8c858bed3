-- `text_csv::put_rest` meets its contract. Assumes nothing.
use borrow.Author.Rules.{rules}
use Rattle.text_pieces.proofs.Laws.{then}
use Rattle.text_csv.specs.Rows.{rest_shown}
use Rattle.text_csv.proofs.put_rest.Goals as goal

pub returns : goal.returns
unfolding rest_shown
returns c =
    then c.put_byte-a.ensures (then c.put_byte-b.ensures (then c.put_height-c.ensures (then c.put_height-d.ensures c.put_byte.ensures)))
