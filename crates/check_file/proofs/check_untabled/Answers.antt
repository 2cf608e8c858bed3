-- `check_file::check_untabled` meets its contract: no table is lent. Assumes nothing.
use borrow.Author.Rules.{rules}
use Rattle.check_file.proofs.check_untabled.Goals as goal

pub returns : goal.returns
returns c = c.check_whole.ensures.told
