-- `put` meets its contract. Assumes nothing.
use borrow.Author.Tests.{eq-eqb, ne_eqb}
use Rattle.c_entries.proofs.put.Goals as goal

pub returns-then-list-eq-ENTRIES : goal.returns-then-list-eq-ENTRIES
returns-then-list-eq-ENTRIES c = rw (eq-eqb _ _ c.if-list-eq-ENTRIES.true) c.put_all.ensures

pub returns-else-list-eq-ENTRIES : goal.returns-else-list-eq-ENTRIES
returns-else-list-eq-ENTRIES c = rw (ne_eqb _ _ c.if-list-eq-ENTRIES.false)
