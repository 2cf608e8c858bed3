-- `text_listing::lines::put_flight` meets its contract. Assumes nothing.
use Rattle.rules.specs.Choice.{bytes}
use Rattle.text_listing.specs.Lines.{ok_numbers}
use Rattle.text_pieces.proofs.Laws.{then}
use Rattle.text_listing.proofs.lines.put_flight.Goals as goal

pub returns : goal.returns
unfolding ok_numbers bytes
returns c =
    then c.put_counted-c.ensures (then c.put_two-d.ensures (then c.put_two-e.ensures c.put_byte.ensures))
