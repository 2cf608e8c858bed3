-- `headers::numbers` meets its contract. Assumes nothing.
use Rattle.rules.specs.Refusals.{result_told}
use borrow.Author.Rules.{rules}
use Rattle.c_lines.proofs.headers.numbers.Goals as goal

pub returns-in-Ok : goal.returns-in-Ok
unfolding result_told
returns-in-Ok c = rw c.in-Ok.is c.values.ensures

pub returns-in-Err : goal.returns-in-Err
unfolding result_told
returns-in-Err c = rw c.in-Err.is c.refused.ensures
