-- `head` meets its contract. Assumes nothing.
use borrow.Author.Rules.{rules}
use Rattle.c_lines.specs.Values.{head_numbers}
use Rattle.c_answers.proofs.Laws.{given_said}
use Rattle.c_lines.proofs.head.Goals as goal

pub returns : goal.returns
returns c = given_said _ _ head_numbers _ _ _ _ _ c.head.ensures c.head-2.ensures c.give.ensures
