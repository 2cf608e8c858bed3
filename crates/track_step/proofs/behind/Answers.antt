-- `track_step::behind` meets its contract. Assumes nothing.
use Rattle.track_step.proofs.Laws.{behind_untimed, behind_timed}
use Rattle.track_step.proofs.behind.Goals as goal

pub returns-in-None : goal.returns-in-None
returns-in-None c = behind_untimed _ c.args.p _ c.in-None.is

pub returns-in-Some : goal.returns-in-Some
returns-in-Some c = behind_timed _ c.args.p _ _ _ c.in-Some.is c.day_after.ensures
