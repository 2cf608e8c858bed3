-- `shelf_gap::place_for` meets its contract: the search from `at` on decides as the whole search. Assumes nothing.
use Prim.Native.Nat.{◌-◌}
use mathlib.Core.Path.{◌≡◌}
use lib.ListN.{length}
use Rattle.shelf_rules.specs.Ranges.{least}
use Rattle.shelf_rules.specs.Shelf.{fits, place_for}
use Rattle.shelf_gap.proofs.place_for.Given as goal

abbrev pub invariant-loop-at : goal.invariant-loop-at
invariant-loop-at l = least (fits l.b l.size) l.at (length l.b - l.at) ≡ place_for l.b l.size

abbrev pub decreases-loop-at : goal.decreases-loop-at
decreases-loop-at l = length l.b - l.at
