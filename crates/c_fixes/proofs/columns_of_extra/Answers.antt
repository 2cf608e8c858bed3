-- `c_fixes::columns_of_extra` meets its contract. Assumes nothing.
use mathlib.Core.Path.{refl}
use Rattle.rules.specs.Reads.{extra_reading_told}
use Rattle.c_fixes.proofs.columns_of_extra.Goals as goal

pub returns-in-Ok : goal.returns-in-Ok
unfolding extra_reading_told
returns-in-Ok c = rw c.in-Ok.is refl

pub returns-in-Err : goal.returns-in-Err
unfolding extra_reading_told
returns-in-Err c = rw c.in-Err.is c.empty_layout.ensures
