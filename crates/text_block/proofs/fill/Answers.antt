-- `text_block::fill` meets its contract: a layout that is not allowed leaves nothing to print. Assumes nothing.
use borrow.Author.Rules.{rules}
use Rattle.text_block.proofs.Laws.{not_laid, laid, laid_filled}
use Rattle.text_block.proofs.fill.Goals as goal

pub returns-then-not-allowed : goal.returns-then-not-allowed
returns-then-not-allowed c = search (not_laid, rules)

pub fill_lines-requires : goal.fill_lines-requires
fill_lines-requires c = search (laid, rules)

pub returns : goal.returns
returns c = search (laid_filled, rules)
