-- `summary_slots::put_twelve` meets its contract. Assumes nothing.
use Rattle.summary_slots.proofs.Laws.{twelve_set}
use Rattle.summary_slots.proofs.put_twelve.Goals as goal

pub returns : goal.returns
returns c =
    twelve_set _ _ _ _ _ _ c.args.s _ _ _ _ _ _ c.figure_of.ensures c.is_some.ensures c.flag.ensures c.known-heights.ensures c.known-lats.ensures c.known-lons.ensures
    c.put_four.ensures c.put_four-2.ensures c.put_four-3.ensures
