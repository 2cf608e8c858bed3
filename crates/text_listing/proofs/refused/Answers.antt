-- `text_listing::refused` meets its contract. Assumes nothing.
use borrow.Author.Rules.{rules}
use Rattle.text_pieces.proofs.Laws.{whole}
use Rattle.text_listing.proofs.Laws.{refused_room}
use Rattle.text_listing.proofs.refused.Goals as goal

pub returns : goal.returns
returns c = whole (search rules) (refused_room _ _ _) (rw (← c.number-number.ensures) c.put_refusal.ensures)
