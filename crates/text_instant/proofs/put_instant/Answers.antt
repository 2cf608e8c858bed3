-- `text_instant::put_instant` meets its contract. Assumes nothing.
use borrow.Author.Rules.{rules}
use Rattle.text_instant.proofs.Laws.{moment_fills}
use Rattle.text_instant.proofs.put_instant.Goals as goal

pub returns : goal.returns
returns c = search (moment_fills, rules)
