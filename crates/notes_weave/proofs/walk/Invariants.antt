-- `notes_weave::walk` meets its contract: what is left of both, behind what was put, is the whole. Assumes nothing.
use Prim.Native.Nat.{◌+◌}
use lib.ListN.{length}
use Rattle.notes_runs.specs.Runs.{coming}
use Rattle.notes_weave.proofs.Turns.{Going}
use Rattle.notes_weave.proofs.walk.Given as goal

abbrev pub invariant-loop-ha : goal.invariant-loop-ha
invariant-loop-ha l = Going l.a l.b l.from l.initial.out l.ha l.hb l.x l.y l.out l.at

abbrev pub decreases-loop-ha : goal.decreases-loop-ha
decreases-loop-ha l = length (coming l.a l.x.last) + length (coming l.b l.y.last)
