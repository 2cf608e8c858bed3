-- `c_refusals::put` meets its contract. Assumes nothing.
use borrow.Author.Rules.{rules}
use Rattle.c_refusals.proofs.Laws.{words_no_room, words_room}
use Rattle.c_refusals.proofs.put.Goals as goal

pub returns-then-text-words : goal.returns-then-text-words
returns-then-text-words c = search (words_no_room, rules)

pub returns : goal.returns
returns c = search (words_room, rules)
