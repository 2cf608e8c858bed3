-- `columns_asked::refused` meets its contract. Assumes nothing.
use mathlib.Core.Path.{refl}
use Rattle.rules.specs.Refusals.{result_told}
use Rattle.columns_asked.proofs.refused.Goals as goal

pub returns : goal.returns
unfolding result_told
returns c = record { answer = refl; spots = refl }
