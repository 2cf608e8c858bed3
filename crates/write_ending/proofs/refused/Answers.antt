-- `write_ending::refused` meets its contract. Assumes nothing.
use Rattle.rules.specs.Refusals.{result_told}
use mathlib.Core.Path.{refl}
use Rattle.write_ending.proofs.refused.Goals as goal

pub returns : goal.returns
unfolding result_told
returns c = refl
