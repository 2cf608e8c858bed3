-- `track_step::passed` meets its contract: the plain time moves the clock and the day. Assumes nothing.
use mathlib.Core.Path.{refl}
use Rattle.track_step.proofs.Laws.{passed_so}
use Rattle.track_step.proofs.passed.Goals as goal

pub returns : goal.returns
returns c = passed_so _ c.args.p _ _ _ _ _ _ c.behind-next.ensures refl c.fix_of-fix.ensures c.record_of.ensures
