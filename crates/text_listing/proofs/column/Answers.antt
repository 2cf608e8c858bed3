-- `text_listing::column` meets its contract. Assumes nothing.
use borrow.Author.Rules.{rules}
use Rattle.text_pieces.proofs.Laws.{whole}
use Rattle.text_listing.proofs.Laws.{column_room}
use Rattle.text_listing.proofs.column.Goals as goal

pub returns : goal.returns
returns c = whole (search rules) (column_room _ _ (search rules)) c.put_column.ensures
