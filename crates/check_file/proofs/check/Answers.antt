-- `check_file::check` meets its contract: the table is lent. Assumes nothing.
use borrow.Author.Rules.{rules}
use Rattle.check_file.proofs.check.Goals as goal

pub returns : goal.returns
returns c = record { told = c.check_whole.ensures.told; entries = c.check_whole.ensures.entries }
