-- `text_listing::fix` meets its contract. Assumes nothing.
use borrow.Author.Rules.{rules}
use Rattle.text_pieces.proofs.Laws.{whole}
use Rattle.text_listing.proofs.Laws.{fix_room}
use Rattle.text_listing.proofs.fix.Goals as goal

pub returns : goal.returns
returns c = whole (search rules) (fix_room _ _) c.put_fix.ensures
