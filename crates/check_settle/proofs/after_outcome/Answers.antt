-- `check_settle::after_outcome` meets its contract. Assumes nothing.
use mathlib.Core.Path.{refl}
use Rattle.rules.specs.Refusals.{result_told}
use Rattle.rules.proofs.Handed.{handed_on}
use Rattle.check_settle.proofs.after_outcome.Goals as goal

pub returns-in_err-outcome : goal.returns-in_err-outcome
unfolding result_told
returns-in_err-outcome c = handed_on _ _ _ c.from_residual.ensures.1 (rw c.in_err-outcome.was refl)

pub returns : goal.returns
unfolding result_told
returns c = rw c.in_ok-outcome.was c.passed.ensures
