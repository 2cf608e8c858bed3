-- `notes_weave::advance` meets its contract: the next of the run. Assumes nothing.
use mathlib.Core.Path.{refl}
use native.Mathlib.Omega.{arith}
use Rattle.notes_weave.proofs.Reading.{taken}
use Rattle.notes_weave.proofs.advance.Goals as goal

pub overflow_add-result : goal.overflow_add-result
overflow_add-result c = omega (arith, c.requires.0.fits, c.requires.1)

pub returns : goal.returns
returns c = taken _ _ _ c.requires.0 c.requires.1 _ refl refl refl
