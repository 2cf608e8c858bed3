-- `text_explain::told::put_counted` meets its contract. Assumes nothing.
use borrow.Author.Rules.{rules}
use Rattle.text_explain.proofs.Pieces.{counted_none, counted_fills}
use Rattle.text_explain.proofs.told.put_counted.Goals as goal

pub returns-then-n-eq0 : goal.returns-then-n-eq0
returns-then-n-eq0 c = search counted_none

pub returns : goal.returns
returns c = search (counted_fills, rules) depth 8
