-- `text_dates::put_two` meets its contract. Assumes nothing.
use borrow.Author.Rules.{rules}
use Rattle.text_pieces.proofs.Laws.{pieces}
use Rattle.text_dates.specs.Dates.{two_digits}
use Rattle.text_dates.proofs.put_two.Goals as goal

pub returns : goal.returns
unfolding two_digits
returns c = search pieces depth 16
