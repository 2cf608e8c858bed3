-- `shelf_pack::move_to` meets its contract: the body has room at the lower place, and the entry's start is four bytes of the table. Assumes nothing.
use borrow.Author.Rules.{rules}
use Rattle.shelf_pack.proofs.Nexts.{start_is, move_then}
use Rattle.shelf_pack.proofs.move_to.Goals as goal

pub overflow_cast-at : goal.overflow_cast-at
overflow_cast-at c =
    let e = start_is _ _ _ c.slot_at-s.ensures in
    search rules

pub returns : goal.returns
returns c =
    let e = c.slot_at-s.ensures in
    (e, move_then _ _ _ _ _ _ c.requires.0 c.requires.1.0 c.requires.1.1.0 c.requires.1.1.1 e c.move_down.ensures c.put_word.ensures)
