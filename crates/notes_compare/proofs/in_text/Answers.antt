-- `notes_compare::in_text` meets its contract: the text goes on exactly where no CR stands. Assumes nothing.
use borrow.Author.Rules.{rules}
use borrow.Author.Tests.{le-ltb}
use Rattle.notes_compare.proofs.Letters.{in_past, in_told}
use Rattle.notes_compare.proofs.in_text.Goals as goal

pub returns-then-i-s : goal.returns-then-i-s
returns-then-i-s c = in_told _ _ (search rules)

pub returns-else-i-s : goal.returns-else-i-s
returns-else-i-s c = rw (le-ltb _ _ c.if-i-s.false) (in_past _ _ (search rules))
