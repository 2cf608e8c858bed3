-- `fits` meets its contract: the entries that are left decide as all do. Assumes nothing.
use Prim.Native.Nat.{◌+◌, ◌*◌, ◌≤◌}
use mathlib.Core.Path.{◌≡◌}
use lib.ListN.{length}
use Rattle.c_entries.specs.Lent.{entries_size}
use Rattle.c_seek.specs.Parts.{fit_in}
use Rattle.c_seek.proofs.fits.Given as goal

abbrev pub invariant-loop-left : goal.invariant-loop-left
invariant-loop-left l = (l.at + 3 * l.left ≤ entries_size) × (length l.list ≡ entries_size) × (fit_in l.bytes l.left l.list l.at ≡ fit_in l.bytes l.count l.list 1)

abbrev pub decreases-loop-left : goal.decreases-loop-left
decreases-loop-left l = l.left
