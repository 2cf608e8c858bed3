-- `line` meets its contract. Assumes nothing.
use borrow.Author.Rules.{rules}
use Rattle.c_places.specs.Calls.{bounds_numbers}
use Rattle.c_answers.proofs.Laws.{given_said}
use Rattle.c_places.proofs.line.Goals as goal

pub returns : goal.returns
returns c = given_said _ _ bounds_numbers _ _ _ _ _ c.bounds.ensures c.line.ensures c.give.ensures
