-- `point` meets its contract. Assumes nothing.
use borrow.Author.Rules.{rules}
use Rattle.c_lines.specs.Values.{point_numbers}
use Rattle.c_answers.proofs.Laws.{given_said}
use Rattle.c_lines.proofs.point.Goals as goal

pub returns : goal.returns
returns c = given_said _ _ point_numbers _ _ _ _ _ c.point.ensures c.point-2.ensures c.give.ensures
