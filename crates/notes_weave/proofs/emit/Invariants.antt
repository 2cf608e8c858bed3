-- `notes_weave::emit` meets its contract: what is left of the text, and CR LF. Assumes nothing.
use Prim.Native.Nat.{◌-◌}
use lib.ListN.{length}
use Rattle.notes_weave.proofs.Reading.{Putting}
use Rattle.notes_weave.proofs.emit.Given as goal

abbrev pub invariant-loop-out : goal.invariant-loop-out
invariant-loop-out l = Putting l.s l.i l.initial.out l.at l.out l.x l.to

abbrev pub decreases-loop-out : goal.decreases-loop-out
decreases-loop-out l = length l.s - l.x
