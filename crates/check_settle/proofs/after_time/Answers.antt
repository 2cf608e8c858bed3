-- `check_settle::after_time` meets its contract. Assumes nothing.
use mathlib.Core.Path.{refl}
use Rattle.rules.specs.Refusals.{result_told}
use Rattle.rules.proofs.Handed.{handed_on}
use Rattle.check_settle.proofs.after_time.Goals as goal

pub returns-in_err-read : goal.returns-in_err-read
unfolding result_told
returns-in_err-read c = handed_on _ _ _ c.from_residual.ensures.1 (rw c.in_err-read.was refl)

pub returns : goal.returns
unfolding result_told
returns c = rw c.in_ok-read.was c.timed_at.ensures
