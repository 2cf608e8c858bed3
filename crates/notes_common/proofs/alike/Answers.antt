-- `notes_common::alike` meets its contract: other counts, other bytes, or the same. Assumes nothing.
use mathlib.Core.Path.{sym}
use lib.Seq.{length-take-le}
use Rattle.notes_common.proofs.Common.{front_both, not_alike, other_bytes, same_bytes}
use Rattle.notes_common.proofs.alike.Goals.{then-n-count-via-then-n-count, then-n-count-via-else-n-count+then-ne}
use Rattle.notes_common.proofs.alike.Goals as goal

pub slice_bounds-ne-end : goal.slice_bounds-ne-end
slice_bounds-ne-end c = sym (length-take-le _ _ (front_both _ _ _ _ c.count-n.ensures c.count.ensures c.if-n-count.false).0)

pub slice_bounds-ne-end-else-n-count : goal.slice_bounds-ne-end-else-n-count
slice_bounds-ne-end-else-n-count c = sym (length-take-le _ _ (front_both _ _ _ _ c.count-n.ensures c.count.ensures c.if-n-count.false).1)

pub returns-then-n-count : goal.returns-then-n-count
returns-then-n-count c =
    elim c.then-n-count.branch [
      | then-n-count-via-then-n-count w ↦ not_alike _ _ _ _ c.count-n.ensures c.count.ensures w.if-n-count.true
      | then-n-count-via-else-n-count+then-ne w ↦ other_bytes _ _ _ _ c.count-n.ensures c.count.ensures w.if-n-count.false _ w.ne.ensures w.if-ne.true
    ]

pub returns : goal.returns
returns c = same_bytes _ _ _ _ c.count-n.ensures c.count.ensures c.if-n-count.false _ c.ne.ensures c.if-ne.false
