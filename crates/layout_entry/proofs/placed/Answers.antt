-- `layout_entry::placed` meets its contract: whether the code was there before is what `carries` says. Assumes nothing.
use Rattle.layout_entry.proofs.placed.Goals as goal

pub returns : goal.returns
returns c = c.behind.ensures _ c.carries.ensures
