-- `text_decimals::put_extra` meets its contract. Assumes nothing.
use borrow.Author.Rules.{rules}
use Rattle.text_decimals.proofs.Laws.{extra_none, extra_some}
use Rattle.text_decimals.proofs.put_extra.Goals as goal

pub returns-then-n-eq0 : goal.returns-then-n-eq0
returns-then-n-eq0 c = search (extra_none, rules)

pub returns : goal.returns
returns c = search (extra_some, rules)
