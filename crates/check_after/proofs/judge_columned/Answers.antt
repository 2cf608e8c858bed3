-- `check_after::judge_columned` meets its contract. Assumes nothing.
use borrow.Author.Rules.{rules}
use Rattle.check_after.proofs.judge_columned.Goals as goal

pub returns : goal.returns
returns c = rw (c.columned_line.ensures, c.counted_in.ensures, c.layout_of-layout.ensures) at c.after_time.ensures
