-- `columns::by_size` meets its contract. Assumes nothing.
use native.Mathlib.Omega.{arith}
use borrow.Author.Rules.{rules}
use borrow.Author.Tests.{le-leb, lt-leb}
use Rattle.columns.specs.Lines.{by_size}
use Rattle.columns.proofs.by_size.Goals as goal

pub returns-then-file-at : goal.returns-then-file-at
unfolding by_size
returns-then-file-at c = rw (lt-leb _ _ c.if-file-at.true)

pub overflow_add-result : goal.overflow_add-result
unfolding by_size
overflow_add-result c = omega arith

pub returns : goal.returns
unfolding by_size
returns c = rw (le-leb _ _ c.if-file-at.false)
