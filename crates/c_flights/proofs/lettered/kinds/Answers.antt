-- `c_flights::lettered::kinds` meets its contract. Assumes nothing.
use mathlib.Core.Path.{◌∙◌, ap}
use borrow.Author.Rules.{rules}
use Rattle.c_answers.specs.Answers.{in_numbers}
use Rattle.c_answers.proofs.Laws.{beside_no_room, beside_room}
use Rattle.c_flights.specs.Lettered.{all_numbers}
use Rattle.c_flights.proofs.lettered.kinds.Goals as goal

pub returns-then-answer-ne-SIZE : goal.returns-then-answer-ne-SIZE
returns-then-answer-ne-SIZE c = beside_no_room _ _ _ _ c.if-answer-ne-SIZE.true

pub returns : goal.returns
returns c = beside_room _ _ _ _ _ _ _ _ c.if-answer-ne-SIZE.false (c.count.ensures ∙ ap (in_numbers all_numbers) c.kinds-kinded.ensures.told) c.give.ensures c.kinds-kinded.ensures.bytes
