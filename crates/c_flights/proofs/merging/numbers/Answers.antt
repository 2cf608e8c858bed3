-- `c_flights::merging::numbers` meets its contract. Assumes nothing.
use borrow.Author.Rules.{rules}
use Rattle.notes_merge.specs.Merge.{merge_told}
use Rattle.c_flights.proofs.merging.numbers.Goals as goal

pub returns-in-Whole : goal.returns-in-Whole
unfolding merge_told
returns-in-Whole c = rw c.in-Whole.is c.accepted.ensures

pub returns-in-First : goal.returns-in-First
unfolding merge_told
returns-in-First c = rw c.in-First.is c.refused_of.ensures

pub returns-in-Second : goal.returns-in-Second
unfolding merge_told
returns-in-Second c = rw c.in-Second.is c.refused_of-in-Second.ensures

pub returns-in-Neither : goal.returns-in-Neither
unfolding merge_told
returns-in-Neither c = rw c.in-Neither.is c.refused.ensures
