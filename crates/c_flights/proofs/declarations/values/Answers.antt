-- `c_flights::declarations::values` meets its contract. Assumes nothing.
use borrow.Author.Rules.{rules}
use Rattle.c_flights.proofs.declarations.values.Goals as goal

pub returns : goal.returns
returns c = rw (← c.planned_date-flight.ensures) c.accepted.ensures
