-- `check_carried::judge_seal` meets its contract. Assumes nothing.
use borrow.Author.Rules.{rules}
use Rattle.check_carried.proofs.judge_seal.Goals as goal

pub returns : goal.returns
returns c = rw (c.shaped.ensures, c.signed_off.ensures) at c.after_outcome.ensures
