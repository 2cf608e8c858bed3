-- `track_step::anew` meets its contract. Assumes nothing.
use mathlib.Core.Path.{refl}
use Rattle.track_step.proofs.anew.Goals as goal

pub returns : goal.returns
returns c = refl
