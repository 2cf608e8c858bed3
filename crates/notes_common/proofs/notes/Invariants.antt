-- `notes_common::notes` meets its contract: the lines from here on decide as all lines do. Assumes nothing.
use Prim.Native.Nat.{◌-◌}
use lib.ListN.{length}
use Rattle.notes_common.proofs.Noted.{Noting}
use Rattle.notes_common.proofs.notes.Given as goal

abbrev pub invariant-loop-at : goal.invariant-loop-at
invariant-loop-at l = Noting l.file l.seen l.at

abbrev pub decreases-loop-at : goal.decreases-loop-at
decreases-loop-at l = length l.file - l.at
