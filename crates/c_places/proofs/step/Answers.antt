-- `step` meets its contract. Assumes nothing.
use borrow.Author.Rules.{rules}
use Rattle.c_answers.proofs.Laws.{given_said}
use Rattle.c_places.proofs.step.Goals as goal

pub returns : goal.returns
returns c = given_said _ _ _ _ _ _ _ _ c.step.ensures c.step-2.ensures c.give.ensures
