-- `check_places::is_placed` meets its contract: what was found so far and what is left decide as the whole does. Assumes nothing.
use Rattle.std.proofs.Common.{rules}
use Rattle.check_places.proofs.Laws.{kept_step, kept_end}
use Rattle.check_places.proofs.is_placed.Goals as goal

pub loop-i-preserved : goal.loop-i-preserved
loop-i-preserved c =
    let l = c.loop-i in
    kept_step _ _ _ _ l.i l.ok _ l.invariant _ (search rules) (search rules) (search rules) (search rules) c.still-ok.ensures

pub returns : goal.returns
returns c = kept_end _ _ _ _ c.loop-i.i _ _ c.loop-i.invariant (search rules)
