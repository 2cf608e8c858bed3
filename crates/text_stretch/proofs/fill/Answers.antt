-- `text_stretch::fill` meets its contract. Assumes nothing.
use borrow.Author.Rules.{rules}
use Rattle.text_stretch.proofs.Laws.{few_within, sheet_full}
use Rattle.text_stretch.proofs.fill.Goals as goal

pub overflow_sub-result : goal.overflow_sub-result
overflow_sub-result c = search (few_within, rules)

pub returns : goal.returns
returns c = search (sheet_full, rules)
