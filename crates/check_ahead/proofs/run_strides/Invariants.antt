-- `check_ahead::run_strides` meets its contract: at each turn, what holds before the run leads to what holds here. Assumes nothing.
use Prim.Native.Nat.{◌-◌}
use lib.ListN.{length}
use Rattle.check_ahead.specs.Runs.{Running}
use Rattle.check_ahead.proofs.run_strides.Given as goal

abbrev pub invariant-loop-p : goal.invariant-loop-p
invariant-loop-p l = Running l.lent l.file l.initial.table l.from l.st l.table l.p

abbrev pub decreases-loop-p : goal.decreases-loop-p
decreases-loop-p l = length l.file - l.p.at
