-- `layout_coded::carries` meets its contract: it is there where the look-up finds it. Assumes nothing.
use Rattle.rules.specs.Layouts.{carries}
use Rattle.layout_coded.proofs.Laws.{is_there}
use Rattle.layout_coded.proofs.carries.Goals as goal

pub returns : goal.returns
unfolding carries
returns c = is_there _ _ _ c.look.ensures c.is_some.ensures
