-- `summary_fix::plain_position` meets its contract. Assumes nothing.
use borrow.Author.Rules.{rules}
use Rattle.byte_tens.proofs.Laws.{told_least}
use Rattle.summary_fix.proofs.Laws.{position_divided}
use Rattle.summary_fix.proofs.plain_position.Goals as goal

pub nonzero_div-result : goal.nonzero_div-result
nonzero_div-result c = search told_least

pub returns : goal.returns
returns c = search (position_divided, rules)
