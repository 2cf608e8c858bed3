-- `file_lines::scan::crlf_from` meets its contract: the first CR LF from here on is the whole answer. Assumes nothing.
use mathlib.Core.Path.{◌≡◌}
use lib.ListN.{drop}
use Rattle.rules.specs.Split.{first_crlf}
use Rattle.file_lines.proofs.scan.crlf_from.Given as goal

abbrev pub invariant-loop-i : goal.invariant-loop-i
invariant-loop-i l = first_crlf l.i (drop l.i l.file) ≡ first_crlf l.at (drop l.at l.file)
