-- The arguments left grow fewer.
use Rattle.std.proofs.Common.{◌-◌}
use Rattle.try_inputs.proofs.main.Given as goal

abbrev pub decreases-loop-i : goal.decreases-loop-i
decreases-loop-i l = l.n - l.i
