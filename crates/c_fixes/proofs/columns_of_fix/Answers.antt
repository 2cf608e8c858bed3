-- `c_fixes::columns_of_fix` meets its contract. Assumes nothing.
use mathlib.Core.Path.{refl}
use Rattle.rules.specs.Reads.{fix_reading_told}
use Rattle.c_fixes.proofs.columns_of_fix.Goals as goal

pub returns-in-Ok : goal.returns-in-Ok
unfolding fix_reading_told
returns-in-Ok c = rw c.in-Ok.is refl

pub returns-in-Err : goal.returns-in-Err
unfolding fix_reading_told
returns-in-Err c = rw c.in-Err.is c.empty_layout.ensures
