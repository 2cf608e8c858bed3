-- `text_listing::lines::put_spelt` meets its contract. Assumes nothing.
use Rattle.rules.specs.Choice.{bytes}
use Rattle.rules.specs.Listing.{column_shown}
use Rattle.text_pieces.proofs.Laws.{then}
use Rattle.text_listing.proofs.lines.put_spelt.Goals as goal

pub returns : goal.returns
unfolding column_shown bytes
returns c =
    then c.put_text-a.ensures (then (rw c.column_text.ensures at c.put_text-b.ensures) c.put_byte.ensures)
