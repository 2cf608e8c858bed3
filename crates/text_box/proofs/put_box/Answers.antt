-- `text_box::put_box` meets its contract. Assumes nothing.
use borrow.Author.Rules.{rules}
use Rattle.rules.specs.Choice.{bytes}
use Rattle.text_pieces.proofs.Laws.{then}
use Rattle.text_box.proofs.Laws.{no_box, some_box}
use Rattle.text_box.proofs.put_box.Goals as goal

pub returns-then-is_none : goal.returns-then-is_none
unfolding bytes
returns-then-is_none c = search (no_box, rules)

pub returns : goal.returns
unfolding bytes
returns c = search (some_box, then, rules) depth 16
