-- `text_whole::deliver` meets its contract. Assumes nothing.
use borrow.Author.Rules.{rules}
use Rattle.text_whole.proofs.Laws.{no_room, room}
use Rattle.text_whole.proofs.deliver.Goals as goal

pub returns-then-out-text : goal.returns-then-out-text
returns-then-out-text c = search (no_room, rules)

pub returns : goal.returns
returns c = search (room, rules)
