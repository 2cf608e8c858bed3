-- `summary_span::figure_of` meets its contract. Assumes nothing.
use native.Mathlib.Omega.{arith}
use borrow.Author.Tests.{le-leb, lt-leb}
use mir.Syntax.{w32}
use mir.ValLaws.{to_z_pos}
use Rattle.summary_span.specs.Sums.{figure_of}
use Rattle.summary_span.proofs.figure_of.Goals as goal

pub returns-then-n-le2147483647 : goal.returns-then-n-le2147483647
unfolding figure_of
returns-then-n-le2147483647 c = let n = c.args.n in rw (le-leb n 2147483647 (omega arith), to_z_pos w32 n (omega arith))

pub returns-else-n-le2147483647 : goal.returns-else-n-le2147483647
unfolding figure_of
returns-else-n-le2147483647 c = let n = c.args.n in rw (lt-leb n 2147483647 (omega arith))
