-- `no_column` meets its contract. Assumes nothing.
use Rattle.rules.specs.Refusals.{result_told}
use mathlib.Core.Path.{refl}
use Rattle.c_given.proofs.no_column.Goals as goal

pub returns : goal.returns
unfolding result_told
returns c = refl
