-- `notes_runs::refill` meets its contract: the notes from here on, put into the run, give the whole answer. Assumes nothing.
use Prim.Native.Nat.{◌-◌}
use lib.ListN.{length}
use Rattle.notes_runs.proofs.Runs.{Filling}
use Rattle.notes_runs.proofs.refill.Given as goal

abbrev pub invariant-loop-i : goal.invariant-loop-i
invariant-loop-i l = Filling l.s l.last l.initial.heads l.heads l.n l.i

abbrev pub decreases-loop-i : goal.decreases-loop-i
decreases-loop-i l = length l.s - l.i
