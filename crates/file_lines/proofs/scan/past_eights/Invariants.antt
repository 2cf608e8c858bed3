-- `file_lines::scan::past_eights` meets its contract: how the line ends from here on is the whole answer. Assumes nothing.
use Prim.Native.Nat.{◌-◌, ◌≤◌}
use mathlib.Core.Path.{◌≡◌}
use lib.ListN.{length, drop}
use Rattle.rules.specs.Split.{lines_of}
use Rattle.file_lines.specs.Ends.{ended_at}
use Rattle.file_lines.proofs.scan.past_eights.Given as goal

abbrev pub invariant-loop-i : goal.invariant-loop-i
invariant-loop-i l = (l.i ≤ length l.file) × (ended_at l.i (lines_of (drop l.i l.file)) ≡ ended_at l.from (lines_of (drop l.from l.file)))

abbrev pub decreases-loop-i : goal.decreases-loop-i
decreases-loop-i l = length l.file - l.i
