-- `span` meets its contract. Assumes nothing.
use Rattle.rules.specs.Refusals.{result_told}
use borrow.Author.Rules.{rules}
use Rattle.c_seek.proofs.span.Goals as goal

pub returns : goal.returns
unfolding result_told
returns c = search rules
