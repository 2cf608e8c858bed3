-- `text_sheet::few` meets its contract. Assumes nothing.
use borrow.Author.Rules.{rules}
use Rattle.text_sheet.proofs.Laws.{few_most, few_all}
use Rattle.text_sheet.proofs.few.Goals as goal

pub returns-then-left-gt380 : goal.returns-then-left-gt380
returns-then-left-gt380 c = search (few_most, rules)

pub returns : goal.returns
returns c = search (few_all, rules)
