-- `c_files::counts::count` meets its contract: what the check without a table says, in numbers. Assumes nothing.
use borrow.Author.Rules.{rules}
use Rattle.c_answers.proofs.Laws.{no_room}
use Rattle.c_files.proofs.Laws.{count_room}
use Rattle.c_files.proofs.counts.count.Goals as goal

pub returns-then-answer-ne-SIZE : goal.returns-then-answer-ne-SIZE
returns-then-answer-ne-SIZE c = no_room _ _ c.if-answer-ne-SIZE.true

pub returns : goal.returns
returns c = count_room _ _ _ _ _ _ c.check_untabled-checked.ensures c.numbers.ensures c.give.ensures
