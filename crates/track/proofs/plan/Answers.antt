-- `track::plan` meets its contract. Assumes nothing.
use Rattle.track.proofs.Planning.{plan_refused, plan_accepted}
use Rattle.track.proofs.plan.Goals as goal

pub returns-in-Err : goal.returns-in-Err
returns-in-Err c = plan_refused c.args.file.now _ _ _ c.check_untabled-checked.ensures _ c.in-Err.is c.refused.ensures

pub returns-in-Ok : goal.returns-in-Ok
returns-in-Ok c = plan_accepted c.args.file.now _ _ _ c.check_untabled-checked.ensures c.in-Ok.is c.for_flight.ensures
