-- `text_stretch::few` meets its contract. Assumes nothing.
use borrow.Author.Rules.{rules}
use Rattle.text_stretch.proofs.Laws.{few_most, few_all}
use Rattle.text_stretch.proofs.few.Goals as goal

pub returns-then-left-gt360 : goal.returns-then-left-gt360
returns-then-left-gt360 c = search (few_most, rules)

pub returns : goal.returns
returns c = search (few_all, rules)
