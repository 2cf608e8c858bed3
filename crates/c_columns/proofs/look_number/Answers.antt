-- `look_number` meets its contract. Assumes nothing.
use borrow.Author.Rules.{rules}
use Rattle.c_columns.proofs.Laws.{number_no_answer, number_no_number, number_answered}
use Rattle.c_columns.proofs.look_number.Goals as goal

pub returns-then-answer-ne-SIZE : goal.returns-then-answer-ne-SIZE
returns-then-answer-ne-SIZE c = number_no_answer _ _ _ _ _ c.if-answer-ne-SIZE.true

pub returns-then-number-ne1 : goal.returns-then-number-ne1
returns-then-number-ne1 c = number_no_number _ _ _ _ _ c.if-answer-ne-SIZE.false c.if-number-ne1.true

pub returns : goal.returns
returns c = number_answered _ _ _ _ _ _ _ _ _ _ c.if-answer-ne-SIZE.false c.if-number-ne1.false c.number-read.ensures c.signed.ensures c.put_number.ensures c.give.ensures
