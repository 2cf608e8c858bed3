-- `check_places::is_placed` meets its contract: what was found so far and what is left decide as the whole does. Assumes nothing.
use Rattle.std.proofs.Common.{◌≡◌, ◌&&◌, drop}
use Rattle.check_places.specs.Places.{kept}
use Rattle.check_places.proofs.is_placed.Given as goal

abbrev pub invariant-loop-i : goal.invariant-loop-i
invariant-loop-i l = (l.ok && kept (drop l.i l.low) (drop l.i l.span) (drop l.i l.other) (drop l.i l.text)) ≡ kept l.low l.span l.other l.text
