-- `c_flights::summaries::summary` meets its contract. Assumes nothing.
use mathlib.Core.Path.{◌∙◌, ap}
use borrow.Author.Rules.{rules}
use Rattle.c_answers.specs.Answers.{in_numbers}
use Rattle.c_answers.proofs.Laws.{beside_no_room, beside_room}
use Rattle.c_flights.specs.Summaries.{runs_numbers}
use Rattle.c_flights.proofs.summaries.summary.Goals as goal

pub returns-then-answer-ne-SIZE : goal.returns-then-answer-ne-SIZE
returns-then-answer-ne-SIZE c = beside_no_room _ _ _ _ c.if-answer-ne-SIZE.true

pub returns : goal.returns
returns c = beside_room _ _ _ _ _ _ _ _ c.if-answer-ne-SIZE.false (c.count.ensures ∙ ap (in_numbers runs_numbers) c.summary-summed.ensures.told) c.give.ensures c.summary-summed.ensures.numbers
