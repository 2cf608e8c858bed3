-- `track_step::has_finer` meets its contract. Assumes nothing.
use Rattle.track_step.proofs.Laws.{no_finer}
use Rattle.track_step.proofs.has_finer.Goals as goal

pub returns : goal.returns
returns c = no_finer c.args.fine
