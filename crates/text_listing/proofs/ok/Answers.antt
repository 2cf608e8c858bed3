-- `text_listing::ok` meets its contract. Assumes nothing.
use borrow.Author.Rules.{rules}
use Rattle.text_pieces.proofs.Laws.{whole}
use Rattle.text_listing.proofs.Laws.{ok_room, ok_parts}
use Rattle.text_listing.proofs.ok.Goals as goal

pub returns : goal.returns
returns c =
    let lengths = rw (c.line_length-n.ensures, c.line_length-k.ensures, c.line_length-b.ensures) at c.put_flight.ensures in
    whole (search rules) (ok_room _) (rw ok_parts lengths)
