-- `look` meets its contract. Assumes nothing.
use borrow.Author.Rules.{rules}
use Rattle.c_columns.specs.Values.{span_numbers}
use Rattle.c_answers.proofs.Laws.{given_said}
use Rattle.c_columns.proofs.look.Goals as goal

pub returns : goal.returns
returns c = given_said _ _ span_numbers _ _ _ _ _ c.column.ensures c.column-2.ensures c.give.ensures
