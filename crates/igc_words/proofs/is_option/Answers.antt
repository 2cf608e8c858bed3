-- `igc_words::is_option` meets its contract. Assumes nothing.
use borrow.Author.Rules.{rules}
use Rattle.igc_words.specs.Words.{dashed}
use Rattle.igc_words.proofs.is_option.Goals as goal

pub returns : goal.returns
unfolding dashed
returns c = rw (← c.byte.ensures)
