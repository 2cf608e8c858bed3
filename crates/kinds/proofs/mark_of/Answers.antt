-- `kinds::mark_of` meets its contract. Assumes nothing.
use borrow.Author.Tests.{eq-eqb, ne_eqb}
use Rattle.kinds.proofs.mark_of.Goals as goal

pub returns-then-letter-eq76 : goal.returns-then-letter-eq76
returns-then-letter-eq76 c = rw (eq-eqb _ 76 c.if-letter-eq76.true)

pub returns-else-letter-eq76 : goal.returns-else-letter-eq76
returns-else-letter-eq76 c = rw (ne_eqb _ 76 c.if-letter-eq76.false)
