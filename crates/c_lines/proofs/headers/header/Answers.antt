-- `headers::header` meets its contract. Assumes nothing.
use borrow.Author.Rules.{rules}
use Rattle.c_lines.specs.Headers.{header_numbers}
use Rattle.c_answers.proofs.Laws.{given_said}
use Rattle.c_lines.proofs.headers.header.Goals as goal

pub returns : goal.returns
returns c = given_said _ _ header_numbers _ _ _ _ _ c.header.ensures c.numbers.ensures c.give.ensures
