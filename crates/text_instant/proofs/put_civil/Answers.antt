-- `text_instant::put_civil` meets its contract. Assumes nothing.
use Rattle.text_pieces.proofs.Laws.{pieces}
use Rattle.text_dates.specs.Dates.{date_shown}
use Rattle.text_instant.proofs.put_civil.Goals as goal

pub returns : goal.returns
unfolding date_shown
returns c = search pieces depth 16
