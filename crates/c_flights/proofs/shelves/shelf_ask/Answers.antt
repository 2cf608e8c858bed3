-- `c_flights::shelves::shelf_ask` meets its contract. Assumes nothing.
use borrow.Author.Rules.{rules}
use Rattle.c_flights.specs.Shelves.{body_numbers}
use Rattle.c_answers.proofs.Laws.{given_said}
use Rattle.c_flights.proofs.shelves.shelf_ask.Goals as goal

pub returns : goal.returns
returns c = given_said _ _ body_numbers _ _ _ _ _ c.ask.ensures c.asked.ensures c.give.ensures
