-- `layout::values::bit_of` meets its contract. Assumes nothing.
use Rattle.layout.proofs.values.bit_of.Goals as goal

pub returns-then-carries : goal.returns-then-carries
returns-then-carries c = rw (← c.listed_at-row.ensures, ← c.carries.ensures, c.if-carries.true)

pub returns-else-carries : goal.returns-else-carries
returns-else-carries c = rw (← c.listed_at-row.ensures, ← c.carries.ensures, c.if-carries.false)
