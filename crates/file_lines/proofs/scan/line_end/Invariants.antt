-- `file_lines::scan::line_end` meets its contract: how the line ends from here on is the whole answer. Assumes nothing.
use mathlib.Core.Path.{◌≡◌}
use lib.ListN.{drop}
use Rattle.rules.specs.Split.{lines_of}
use Rattle.file_lines.specs.Ends.{ended_at}
use Rattle.file_lines.proofs.scan.line_end.Given as goal

abbrev pub invariant-loop-i : goal.invariant-loop-i
invariant-loop-i l = ended_at l.i (lines_of (drop l.i l.file)) ≡ ended_at l.from (lines_of (drop l.from l.file))
