-- `check_ahead::placed::run_placed` meets its contract: at each turn the lines so far are passed, and the numbers are those after them. Assumes nothing.
use Prim.Native.Nat.{◌-◌}
use lib.ListN.{length}
use Rattle.check_ahead.specs.Strides.{pace_by}
use Rattle.check_ahead.proofs.Strides.{Striding}
use Rattle.check_ahead.proofs.placed.run_placed.Given as goal

abbrev pub invariant-loop-at : goal.invariant-loop-at
invariant-loop-at l =
    Striding l.lent l.file l.initial.table l.fix_places.low l.fix_places.span l.fix_places.other l.b l.extra_places.low l.extra_places.span l.extra_places.other l.k (pace_by l.initial.at l.initial.stage l.initial.clock l.initial.lines l.initial.fixes l.initial.extras l.n) l.table (pace_by l.at l.stage l.clock l.lines l.fixes l.extras l.n)

abbrev pub decreases-loop-at : goal.decreases-loop-at
decreases-loop-at l = length l.file - l.at
