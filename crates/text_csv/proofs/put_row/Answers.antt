-- `text_csv::put_row` meets its contract. Assumes nothing.
use borrow.Author.Rules.{rules}
use Rattle.text_pieces.proofs.Laws.{then}
use Rattle.text_csv.specs.Rows.{row_shown}
use Rattle.text_csv.proofs.put_row.Goals as goal

pub returns : goal.returns
unfolding row_shown
returns c =
    then c.put_instant-a.ensures (then c.put_degrees_behind-b.ensures (then c.put_degrees_behind-c.ensures c.put_rest.ensures))
