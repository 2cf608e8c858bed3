-- `summary_slots::put_sum` meets its contract. Assumes nothing.
use native.Mathlib.Omega.{arith}
use Rattle.summary_slots.proofs.Laws.{put_none, put_there}
use Rattle.summary_slots.proofs.put_sum.Goals.{else-list-ge12-via-then-list-ge12+else-at-list, else-list-ge12-via-else-list-ge12}
use Rattle.summary_slots.proofs.put_sum.Goals as goal

pub returns-then-at-list : goal.returns-then-at-list
returns-then-at-list c = put_there _ _ _ _ c.if-list-ge12.true c.if-at-list.true _ c.put_twelve.ensures

pub returns-else-list-ge12 : goal.returns-else-list-ge12
returns-else-list-ge12 c =
    elim c.else-list-ge12.branch [ else-list-ge12-via-then-list-ge12+else-at-list w ↦ put_none _ _ _ _ (omega arith) | else-list-ge12-via-else-list-ge12 w ↦ put_none _ _ _ _ (omega arith) ]
