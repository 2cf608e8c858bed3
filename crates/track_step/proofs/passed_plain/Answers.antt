-- `track_step::passed_plain` meets its contract: the plain time moves the clock and the day. Assumes nothing.
use mathlib.Core.Path.{refl}
use Rattle.track_step.proofs.Laws.{passed_so}
use Rattle.track_step.proofs.passed_plain.Goals as goal

pub returns : goal.returns
returns c = λ l. passed_so l c.args.p _ _ _ _ _ _ c.behind-behind_it.ensures refl (c.plain_fix-fix.ensures l) c.record_of.ensures
