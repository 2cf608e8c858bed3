-- `line_check::bad_pair` meets its contract: what the pairs from here on have is the whole answer. Assumes nothing.
use Prim.Native.Nat.{◌-◌}
use mathlib.Core.Path.{◌≡◌}
use lib.ListN.{length, drop}
use Rattle.rules.specs.Lines.{bad_pair}
use Rattle.line_check.proofs.bad_pair.Given as goal

abbrev pub invariant-loop-i : goal.invariant-loop-i
invariant-loop-i l = bad_pair 7 (drop 7 l.line) ≡ bad_pair l.i (drop l.i l.line)

abbrev pub decreases-loop-i : goal.decreases-loop-i
decreases-loop-i l = length l.line - l.i
