-- `check_carried::judge_other` meets its contract. Assumes nothing.
use borrow.Author.Rules.{rules}
use Rattle.check_carried.proofs.judge_other.Goals as goal

pub returns : goal.returns
returns c = rw c.shaped.ensures at c.after_outcome.ensures
