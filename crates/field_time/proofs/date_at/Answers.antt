-- `field_time::date_at` meets its contract: the year has two digits. Assumes nothing.
use borrow.Author.Rules.{rules}
use Rattle.byte_number.proofs.Laws.{reads}
use Rattle.field_time.proofs.date_at.Goals as goal

pub year_of-y-requires : goal.year_of-y-requires
year_of-y-requires c = search (reads, c.in-Some-two-2.is, rules)
