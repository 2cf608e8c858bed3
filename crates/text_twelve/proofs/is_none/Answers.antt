-- `text_twelve::is_none` meets its contract. Assumes nothing.
use borrow.Author.Rules.{rules}
use Rattle.text_twelve.proofs.is_none.Goals as goal

pub returns : goal.returns
returns c = rw (c.magnitude.ensures, c.number_at.ensures)
