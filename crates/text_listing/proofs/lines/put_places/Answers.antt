-- `text_listing::lines::put_places` meets its contract. Assumes nothing.
use Rattle.rules.specs.Choice.{bytes}
use Rattle.text_pieces.proofs.Laws.{then}
use Rattle.text_listing.proofs.Laws.{places_parts}
use Rattle.text_listing.proofs.lines.put_places.Goals as goal

pub returns : goal.returns
unfolding bytes
returns c =
    rw places_parts (then c.put_counted-a.ensures (then c.put_letter-b.ensures c.put_position.ensures))
