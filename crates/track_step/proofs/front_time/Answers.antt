-- `track_step::front_time` meets its contract. Assumes nothing.
use mathlib.Core.Path.{sym, ◌∙◌}
use borrow.Author.Tests.{not-false}
use Rattle.track_step.proofs.Laws.{time_is, not_secs}
use Rattle.track_step.proofs.front_time.Goals as goal

pub returns-then-not-is_front : goal.returns-then-not-is_front
returns-then-not-is_front c = λ t e. absurd (not_secs t e)

pub returns : goal.returns
returns c = λ t e. (sym c.is_front.ensures ∙ not-false _ c.if-not-is_front.false-raw, time_is _ _ t c.time_at.ensures e)
