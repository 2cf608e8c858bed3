-- `text_dates::put_date` meets its contract. Assumes nothing.
use borrow.Author.Rules.{rules}
use Rattle.text_pieces.proofs.Laws.{pieces}
use Rattle.text_dates.specs.Dates.{date_shown}
use Rattle.text_dates.proofs.put_date.Goals as goal

pub returns : goal.returns
unfolding date_shown
returns c = search pieces depth 16
