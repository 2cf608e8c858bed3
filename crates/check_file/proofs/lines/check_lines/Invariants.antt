-- `check_file::lines::check_lines` meets its contract: at each turn, what is left to check is the whole answer. Assumes nothing.
use Prim.Native.Nat.{◌-◌}
use native.Mathlib.Omega.{arith}
use borrow.Author.Rules.{rules}
use lib.ListN.{length}
use Rattle.check_table.specs.Turns.{Here}
use Rattle.check_table.proofs.Turns.{here_first}
use Rattle.check_file.proofs.Checks.{here_end, here_long, here_on, here_stop}
use Rattle.check_file.proofs.lines.check_lines.Given as goal

abbrev pub invariant-loop-at : goal.invariant-loop-at
invariant-loop-at l = Here l.seal l.lent l.file l.initial.table l.table l.at l.st

abbrev pub decreases-loop-at : goal.decreases-loop-at
decreases-loop-at l = length l.file - l.at
