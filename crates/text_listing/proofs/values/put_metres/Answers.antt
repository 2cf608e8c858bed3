-- `text_listing::values::put_metres` meets its contract. Assumes nothing.
use Rattle.text_listing.proofs.Laws.{behind_space}
use Rattle.text_listing.proofs.values.put_metres.Goals as goal

pub returns : goal.returns
returns c = rw behind_space at c.put_height.ensures
