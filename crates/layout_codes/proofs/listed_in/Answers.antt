-- `layout_codes::listed_in` meets its contract. Assumes nothing.
use Rattle.layout_codes.proofs.listed_in.Goals as goal

pub returns : goal.returns
returns c = rw c.pack.ensures
