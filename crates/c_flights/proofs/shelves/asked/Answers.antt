-- `c_flights::shelves::asked` meets its contract. Assumes nothing.
use Rattle.rules.specs.Refusals.{result_told}
use borrow.Author.Rules.{rules}
use Rattle.c_flights.proofs.shelves.asked.Goals as goal

pub returns-in-Ok : goal.returns-in-Ok
unfolding result_told
returns-in-Ok c = rw c.in-Ok.is c.accepted.ensures

pub returns-in-Err : goal.returns-in-Err
unfolding result_told
returns-in-Err c = rw c.in-Err.is c.refused.ensures
