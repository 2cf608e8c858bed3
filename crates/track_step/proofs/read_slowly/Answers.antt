-- `track_step::read_slowly` meets its contract. Assumes nothing.
use Rattle.track_step.proofs.Laws.{read_refused, read_is}
use Rattle.track_step.proofs.read_slowly.Goals as goal

pub returns-in_default : goal.returns-in_default
returns-in_default c = read_refused _ _ _ _ _ c.fix_fields.ensures _ c.in_default.is c.no_fix.ensures

pub returns : goal.returns
returns c = read_is _ _ _ _ _ c.fix_fields.ensures _ c.in-Ok.is c.passed.ensures
