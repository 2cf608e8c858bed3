-- `text_block::lines::put_line` meets its contract: the fix that was read and its columns are put, and nothing for a line that reads as none. Assumes nothing.
use borrow.Author.Rules.{rules}
use Rattle.text_block.proofs.Laws.{no_b, no_fix, a_fix}
use Rattle.text_block.proofs.lines.put_line.Goals as goal

pub returns-then-byte-ne66 : goal.returns-then-byte-ne66
returns-then-byte-ne66 c = search (no_b, rules)

pub returns-in_default : goal.returns-in_default
returns-in_default c = search (no_fix, rules)

pub returns : goal.returns
returns c = search (a_fix, rules)
