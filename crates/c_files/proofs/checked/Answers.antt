-- `checked` meets its contract: what the check says, in numbers. Assumes nothing.
use borrow.Author.Rules.{rules}
use Rattle.c_answers.proofs.Laws.{beside_no_room}
use Rattle.c_files.proofs.Laws.{check_room}
use Rattle.c_files.proofs.checked.Goals as goal

pub returns-then-answer-ne-SIZE : goal.returns-then-answer-ne-SIZE
returns-then-answer-ne-SIZE c = beside_no_room _ _ _ _ c.if-answer-ne-SIZE.true

pub returns : goal.returns
returns c = check_room _ _ _ _ _ _ _ _ _ c.if-answer-ne-SIZE.false c.check-checked.ensures c.numbers.ensures c.give.ensures
