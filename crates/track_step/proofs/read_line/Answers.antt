-- `track_step::read_line` meets its contract: by either way. Assumes nothing.
use mathlib.Core.Path.{sym, ◌∙◌}
use Rattle.track_step.proofs.Laws.{time_is}
use Rattle.track_step.proofs.read_line.Goals as goal

pub read_swift-requires : goal.read_swift-requires
read_swift-requires c =
    (c.requires, sym c.is_front.ensures ∙ c.if-is_front.true, time_is _ _ _ c.time_at.ensures c.in-Some.is)
