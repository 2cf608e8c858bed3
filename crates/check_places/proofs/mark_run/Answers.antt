-- `check_places::mark_run` meets its contract: what is left to put from here on gives the whole. Assumes nothing.
use Rattle.std.proofs.Common.{rules}
use Rattle.check_places.proofs.Laws.{long_set, run_step}
use Rattle.check_places.proofs.mark_run.Goals as goal

pub loop-i-preserved : goal.loop-i-preserved
loop-i-preserved c =
    let l = c.loop-i in
    (long_set l.list _ _ _ _ c.mark.ensures l.invariant.0, run_step _ _ _ _ _ l.i l.invariant.1 (search rules) _ c.mark.ensures)
