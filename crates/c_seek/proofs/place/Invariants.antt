-- `place` meets its contract: the entries that are left decide as all do. Assumes nothing.
use Prim.Native.Nat.{◌+◌, ◌*◌, ◌≤◌}
use mathlib.Core.Path.{◌≡◌}
use lib.ListN.{length}
use Rattle.c_entries.specs.Lent.{entries_size}
use Rattle.c_seek.specs.Parts.{place_in}
use Rattle.c_seek.proofs.place.Given as goal

abbrev pub invariant-loop-left : goal.invariant-loop-left
invariant-loop-left l = (l.at + 3 * l.left ≤ entries_size) × (length l.list ≡ entries_size) × (place_in l.left l.list l.at l.code ≡ place_in l.count l.list l.start l.code)

abbrev pub decreases-loop-left : goal.decreases-loop-left
decreases-loop-left l = l.left
