-- `point` meets its contract. Assumes nothing.
use borrow.Author.Rules.{rules}
use mathlib.Core.Path.{refl}
use Rattle.c_given_write.proofs.Laws.{said_written}
use Rattle.c_answers.proofs.Laws.{beside_no_room}
use Rattle.c_writers.proofs.Laws.{write_room}
use Rattle.c_writers.proofs.point.Goals as goal

pub returns-then-answer-ne-SIZE : goal.returns-then-answer-ne-SIZE
returns-then-answer-ne-SIZE c = beside_no_room _ _ _ _ c.if-answer-ne-SIZE.true

pub returns : goal.returns
returns c = write_room _ _ _ _ _ _ _ _ _ _ c.if-answer-ne-SIZE.false (said_written _ _ _ _ _ _ _ refl (rw c.point_of-p.ensures at c.point-wrote.ensures)) c.count.ensures c.give.ensures
