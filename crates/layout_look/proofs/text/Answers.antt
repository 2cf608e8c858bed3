-- `layout_look::text` meets its contract: the part is what the bounds say. Assumes nothing.
use Rattle.layout_look.proofs.Laws.{cut}
use Rattle.layout_look.proofs.text.Goals as goal

pub returns-in-Ok : goal.returns-in-Ok
returns-in-Ok c = search cut depth 8

pub returns-in-Err : goal.returns-in-Err
returns-in-Err c = search cut depth 8
