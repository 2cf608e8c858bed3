-- `entry` meets its contract. Assumes nothing.
use borrow.Author.Rules.{rules}
use Rattle.c_columns.specs.Values.{entry_numbers}
use Rattle.c_answers.proofs.Laws.{given_said}
use Rattle.c_columns.proofs.entry.Goals as goal

pub returns : goal.returns
returns c = given_said _ _ entry_numbers _ _ _ _ _ c.entry.ensures c.entry-2.ensures c.give.ensures
