-- `text_faulty::line_start` meets its contract: the lines that are left lead to the line asked for. Assumes nothing.
use borrow.Author.Rules.{rules}
use Rattle.text_faulty.proofs.Places.{walk_start, walk_end, fits, walk_on, walk_none}
use Rattle.text_faulty.proofs.line_start.Goals as goal

pub loop-init : goal.loop-init
loop-init c = walk_start _ _

pub returns-in_default : goal.returns-in_default
returns-in_default c = search (walk_none, rules)

pub overflow_add-at : goal.overflow_add-at
overflow_add-at c = search (fits, rules)

pub loop-preserved : goal.loop-preserved
loop-preserved c = search (walk_on, rules)

pub returns : goal.returns
returns c = search (walk_end, rules)
