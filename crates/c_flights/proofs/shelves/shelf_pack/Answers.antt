-- `c_flights::shelves::shelf_pack` meets its contract. Assumes nothing.
use borrow.Author.Rules.{rules}
use Rattle.c_flights.proofs.Laws.{pack_no_room, pack_room}
use Rattle.c_flights.proofs.shelves.shelf_pack.Goals as goal

pub returns-then-answer-ne-SIZE : goal.returns-then-answer-ne-SIZE
returns-then-answer-ne-SIZE c = pack_no_room _ _ c.if-answer-ne-SIZE.true

pub returns : goal.returns
returns c = pack_room _ _ _ _ _ _ _ c.if-answer-ne-SIZE.false c.pack-told.ensures c.done.ensures c.give.ensures
