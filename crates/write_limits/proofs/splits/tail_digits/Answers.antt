-- `write_limits::splits::tail_digits` meets its contract. Assumes nothing.
use borrow.Author.Rules.{rules}
use Rattle.write_limits.proofs.Laws.{digits_value}
use Rattle.write_limits.proofs.splits.tail_digits.Goals as goal

pub returns : goal.returns
returns c = search (digits_value, rules)
