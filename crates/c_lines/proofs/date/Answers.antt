-- `date` meets its contract. Assumes nothing.
use borrow.Author.Rules.{rules}
use Rattle.c_lines.specs.Values.{date_numbers}
use Rattle.c_answers.proofs.Laws.{given_said}
use Rattle.c_lines.proofs.date.Goals as goal

pub returns : goal.returns
returns c = given_said _ _ date_numbers _ _ _ _ _ c.date.ensures c.date-2.ensures c.give.ensures
