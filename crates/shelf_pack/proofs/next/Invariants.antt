-- `shelf_pack::next` meets its contract: of the entries so far, the one that starts least from the place on. Assumes nothing.
use Rattle.shelf_rules.specs.Moves.{NextOf}
use Rattle.shelf_pack.proofs.next.Given as goal

abbrev pub invariant-loop-n : goal.invariant-loop-n
invariant-loop-n l = NextOf l.shelf l.from l.n l.best
