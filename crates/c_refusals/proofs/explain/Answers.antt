-- `c_refusals::explain` meets its contract. Assumes nothing.
use borrow.Author.Rules.{rules}
use Rattle.c_answers.proofs.Laws.{beside_no_room}
use Rattle.c_refusals.proofs.Laws.{text_room}
use Rattle.c_refusals.proofs.explain.Goals as goal

pub returns-then-answer-ne-SIZE : goal.returns-then-answer-ne-SIZE
returns-then-answer-ne-SIZE c = beside_no_room _ _ _ _ c.if-answer-ne-SIZE.true

pub returns : goal.returns
returns c = text_room _ _ _ _ _ _ _ _ c.if-answer-ne-SIZE.false c.put_explanation-wrote.ensures c.count.ensures c.give.ensures
