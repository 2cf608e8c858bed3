-- `track_step::plain_fix` meets its contract: without digits the counts stay. Assumes nothing.
use Rattle.track_step.proofs.Laws.{plain_is}
use Rattle.track_step.proofs.plain_fix.Goals as goal

pub returns : goal.returns
returns c = λ l. plain_is l _ _ c.requires.0 c.requires.1
