-- `text_box::put_latitudes` meets its contract. Assumes nothing.
use borrow.Author.Rules.{rules}
use Rattle.text_pieces.proofs.Laws.{then}
use Rattle.text_box.specs.Boxed.{latitudes_shown}
use Rattle.text_box.proofs.put_latitudes.Goals as goal

pub returns : goal.returns
unfolding latitudes_shown
returns c =
    then c.put_point-a.ensures c.put_point.ensures
