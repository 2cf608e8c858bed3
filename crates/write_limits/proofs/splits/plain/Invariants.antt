-- `write_limits::splits::plain` meets its contract: a decimal less at each turn. Assumes nothing.
use Prim.Native.Nat.{◌/◌, ◌^◌}
use mathlib.Core.Path.{◌≡◌}
use Rattle.write_limits.proofs.splits.plain.Given as goal

abbrev pub invariant-loop-done : goal.invariant-loop-done
invariant-loop-done l = l.x ≡ l.count / 10 ^ l._done
