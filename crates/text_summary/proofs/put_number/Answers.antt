-- `text_summary::put_number` meets its contract. Assumes nothing.
use borrow.Author.Rules.{rules}
use Rattle.text_summary.proofs.put_number.Goals as goal

pub returns : goal.returns
returns c = rw c.number_at.ensures at c.put_metres.ensures
