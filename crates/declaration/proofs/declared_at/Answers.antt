-- `declaration::declared_at` meets its contract. Assumes nothing.
use native.Mathlib.Omega.{arith}
use borrow.Author.Rules.{rules}
use Rattle.declaration.proofs.declared_at.Goals as goal

pub returns : goal.returns
returns c = rw (← c.head_of-head.ensures, c.behind-length.ensures)
