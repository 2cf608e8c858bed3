-- `refuse` meets its contract. Assumes nothing.
use Rattle.rules.specs.Refusals.{result_told}
use mathlib.Core.Path.{refl}
use Rattle.c_seek.proofs.refuse.Goals as goal

pub returns : goal.returns
unfolding result_told
returns c = refl
