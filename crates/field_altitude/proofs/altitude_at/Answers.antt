-- `field_altitude::altitude_at` meets its contract: what was read keeps to its digits. Assumes nothing.
use borrow.Author.Rules.{rules}
use Rattle.byte_number.proofs.Laws.{reads}
use Rattle.field_altitude.proofs.altitude_at.Goals as goal

pub below-requires : goal.below-requires
below-requires c = search (reads, c.in-Some.is, rules)

pub above-requires : goal.above-requires
above-requires c = search (reads, c.in-Some-five.is, rules)
