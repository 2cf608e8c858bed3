-- `text_twelve::number_at` meets its contract. Assumes nothing.
use borrow.Author.Rules.{rules}
use Rattle.text_twelve.proofs.Laws.{number_past}
use Rattle.text_twelve.proofs.number_at.Goals as goal

pub returns : goal.returns
returns c = rw (← number_past c.args.list.now c.args.i (search rules))
