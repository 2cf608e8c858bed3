-- `check_front::is_between` meets its contract: what was found so far and what is left decide as the whole does. Assumes nothing.
use Prim.Native.Nat.{◌+◌}
use mathlib.Core.Bool.{◌&&◌}
use mathlib.Core.Path.{◌≡◌}
use lib.ListN.{drop}
use Rattle.check_front.specs.Front.{between}
use Rattle.check_front.proofs.is_between.Given as goal

abbrev pub invariant-loop-i : goal.invariant-loop-i
invariant-loop-i l = (l.ok && between (drop l.i l.low) (drop l.i l.high) (drop (3 + l.i) l.line)) ≡ between l.low l.high (drop 3 l.line)
