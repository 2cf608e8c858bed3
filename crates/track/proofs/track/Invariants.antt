-- `track::track` meets its contract: what is still to be stored, from this place and progress, into the list as it now is, gives the list with all fixes stored. Assumes nothing.
use Prim.Native.Nat.{◌-◌, ◌≤◌}
use mathlib.Core.Path.{◌≡◌}
use lib.ListN.{length}
use Rattle.track_rules.specs.Stored.{stored}
use Rattle.track_step.specs.Steps.{step_of}
use Rattle.track.proofs.Storing.{Will}
use Rattle.track.proofs.track.Given as goal

abbrev pub invariant-loop-i : goal.invariant-loop-i
invariant-loop-i l =
    (l.i-end ≤ length l.initial.list) × (length l.list ≡ length l.initial.list)
    × (Will (step_of l.file) l.from l.i (l.i-end - l.i) l.list ≡ stored (step_of l.file) l.initial.from l.i-end l.initial.list)
