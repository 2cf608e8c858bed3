-- `presence` meets its contract. Assumes nothing.
use borrow.Author.Rules.{rules}
use Rattle.c_answers.specs.Answers.{presence_numbers}
use Rattle.c_answers.proofs.Laws.{given_said}
use Rattle.c_columns.proofs.presence.Goals as goal

pub returns : goal.returns
returns c = given_said _ _ presence_numbers _ _ _ _ _ c.presence.ensures c.presence-2.ensures c.give.ensures
