-- `entry_at` meets its contract: each way out is a way through `entry_at`. Assumes nothing.
use Rattle.rules.specs.Refusals.{result_told}
use borrow.Author.Rules.{rules}
use Rattle.rules.proofs.Links.{tests}
use Rattle.c_given.specs.Given.{entry_at}
use Rattle.c_given.proofs.entry_at.Goals as goal

pub returns-then-l-n : goal.returns-then-l-n
unfolding result_told entry_at
returns-then-l-n c = search tests depth 6

pub returns : goal.returns
unfolding result_told entry_at
returns c = search tests depth 8
