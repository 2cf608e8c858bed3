-- `c_flights::merging::merge` meets its contract. Assumes nothing.
use borrow.Author.Rules.{rules}
use Rattle.c_flights.proofs.Laws.{merge_no_room, merge_room}
use Rattle.c_flights.proofs.merging.merge.Goals as goal

pub returns-then-answer-ne-SIZE : goal.returns-then-answer-ne-SIZE
returns-then-answer-ne-SIZE c = merge_no_room _ _ _ _ c.if-answer-ne-SIZE.true

pub returns : goal.returns
returns c = merge_room _ _ _ _ _ _ _ _ _ c.if-answer-ne-SIZE.false c.merge-brought.ensures c.numbers.ensures c.give.ensures
