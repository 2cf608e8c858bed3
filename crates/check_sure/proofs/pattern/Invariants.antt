-- `check_sure::pattern` meets its contract: what is left to put behind the entries so far gives the whole pattern. Assumes nothing.
use Prim.Native.Nat.{◌*◌}
use mathlib.Core.Path.{◌≡◌}
use lib.ListN.{drop, replicate}
use lib.Seq.{sets}
use Rattle.rules.specs.Layouts.{entries_of}
use Rattle.check_sure.specs.Sure.{pattern_of}
use Rattle.check_sure.proofs.pattern.Given as goal

abbrev pub invariant-loop-i : goal.invariant-loop-i
invariant-loop-i l =
    (sets l.p (3 * l.i) (pattern_of (drop l.i (entries_of l.fn.layout))) ≡ sets (replicate 39 0) 0 (pattern_of (entries_of l.fn.layout)))
