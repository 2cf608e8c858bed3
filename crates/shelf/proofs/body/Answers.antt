-- `shelf::body` meets its contract. Assumes nothing.
use Rattle.shelf.proofs.Ends.{part_inside, part_is, part_none}
use borrow.Author.Rules.{rules}
use Rattle.shelf.proofs.body.Goals as goal

pub overflow_add-result : goal.overflow_add-result
overflow_add-result c = let z = part_inside _ _ _ c.ask.ensures _ c.in-Ok.is in search rules

pub slice_bounds-result-end : goal.slice_bounds-result-end
slice_bounds-result-end c = search (part_inside, rules)

pub returns-in-Ok : goal.returns-in-Ok
returns-in-Ok c = search (part_is, rules)

pub returns-in-Err : goal.returns-in-Err
returns-in-Err c = search (part_none, rules)
