-- `file_lines::scan::is_inside` meets its contract: where it holds so far, none of the bytes so far is CR or LF. Assumes nothing.
use Prim.Native.Nat.{ℕ, ◌<◌}
use mathlib.Core.Bool.{true}
use mathlib.Core.Path.{◌≡◌}
use lib.ListN.{get_or}
use Rattle.file_lines.specs.Ends.{is_inside}
use Rattle.file_lines.proofs.scan.is_inside.Given as goal

abbrev pub invariant-loop-i : goal.invariant-loop-i
invariant-loop-i l = l.ok ≡ true → (k : ℕ) → k < l.i → is_inside (get_or l.eight k 0) ≡ true
