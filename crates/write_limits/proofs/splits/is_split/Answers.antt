-- `write_limits::splits::is_split` meets its contract. Assumes nothing.
use borrow.Author.Rules.{rules}
use Rattle.byte_tens.proofs.Laws.{told_least}
use Rattle.write_limits.proofs.Laws.{other_width, by_digits}
use Rattle.write_limits.proofs.splits.is_split.Goals as goal

pub nonzero_rem-result : goal.nonzero_rem-result
nonzero_rem-result c = search (told_least, rules)

pub returns-then-decimals-decimals_of : goal.returns-then-decimals-decimals_of
returns-then-decimals-decimals_of c = search (by_digits, rules)

pub returns-else-decimals-decimals_of : goal.returns-else-decimals-decimals_of
returns-else-decimals-decimals_of c = search (other_width, rules)
