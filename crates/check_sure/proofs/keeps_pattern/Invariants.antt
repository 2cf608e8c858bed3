-- `check_sure::keeps_pattern` meets its contract: the columns from the one in turn on decide as all do. Assumes nothing.
use Prim.Native.Nat.{◌*◌}
use mathlib.Core.Path.{◌≡◌}
use lib.ListN.{drop}
use Rattle.check_sure.specs.Sure.{keeps_pattern}
use Rattle.check_sure.proofs.keeps_pattern.Given as goal

abbrev pub invariant-loop-i : goal.invariant-loop-i
invariant-loop-i l = keeps_pattern l.line (drop (3 * l.i) l.pattern) ≡ keeps_pattern l.line l.pattern
