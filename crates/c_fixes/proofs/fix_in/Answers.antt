-- `c_fixes::fix_in` meets its contract. Assumes nothing.
use mathlib.Core.Path.{refl}
use Rattle.rules.specs.Reads.{fix_reading_told}
use Rattle.rules.specs.Refusals.{result_told}
use Rattle.rules.proofs.Handed.{handed_on}
use Rattle.c_fixes.proofs.fix_in.Goals as goal

pub returns-in_err-r : goal.returns-in_err-r
unfolding fix_reading_told
returns-in_err-r c = handed_on _ _ _ c.from_residual.ensures.1 (rw c.in_err-r.was refl)

pub returns : goal.returns
unfolding result_told fix_reading_told
returns c = rw c.in_ok-r.was refl
