-- `text_box::put_longitudes` meets its contract. Assumes nothing.
use borrow.Author.Rules.{rules}
use Rattle.text_pieces.proofs.Laws.{then}
use Rattle.text_box.specs.Boxed.{longitudes_shown}
use Rattle.text_box.proofs.put_longitudes.Goals as goal

pub returns : goal.returns
unfolding longitudes_shown
returns c =
    then c.put_point-a.ensures c.put_point.ensures
