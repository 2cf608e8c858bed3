-- `text_listing::lines::put_counted` meets its contract. Assumes nothing.
use Rattle.text_listing.specs.Lines.{counted}
use Rattle.text_pieces.proofs.Laws.{then}
use Rattle.text_listing.proofs.lines.put_counted.Goals as goal

pub returns : goal.returns
unfolding counted
returns c =
    then c.put_text-x.ensures (then c.put_shown-y.ensures (then c.put_shown-z.ensures c.put_shown.ensures))
