-- `satellites` meets its contract. Assumes nothing.
use borrow.Author.Rules.{rules}
use Rattle.c_answers.specs.Answers.{time_numbers}
use Rattle.c_answers.proofs.Laws.{given_said}
use Rattle.c_lines.proofs.satellites.Goals as goal

pub returns : goal.returns
returns c = given_said _ _ time_numbers _ _ _ _ _ c.satellites.ensures c.time.ensures c.give.ensures
