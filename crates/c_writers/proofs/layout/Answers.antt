-- `layout` meets its contract. Assumes nothing.
use borrow.Author.Rules.{rules}
use Rattle.c_answers.proofs.Laws.{beside_no_room}
use Rattle.c_writers.proofs.Laws.{write_room}
use Rattle.c_writers.proofs.layout.Goals as goal

pub returns-then-answer-ne-SIZE : goal.returns-then-answer-ne-SIZE
returns-then-answer-ne-SIZE c = beside_no_room _ _ _ _ c.if-answer-ne-SIZE.true

pub returns : goal.returns
returns c = write_room _ _ _ _ _ _ _ _ _ _ c.if-answer-ne-SIZE.false c.layout-wrote.ensures c.count.ensures c.give.ensures
