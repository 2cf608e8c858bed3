-- `c_flights::merging::refused_of` meets its contract. Assumes nothing.
use borrow.Author.Rules.{rules}
use Rattle.c_flights.proofs.merging.refused_of.Goals as goal

pub returns : goal.returns
returns c = rw c.number-number.ensures
