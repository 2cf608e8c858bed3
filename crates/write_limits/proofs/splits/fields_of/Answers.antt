-- `write_limits::splits::fields_of` meets its contract: field by field. Assumes nothing.
use native.Mathlib.Omega.{arith}
use Rattle.rules.specs.Fixes.{fields_of}
use Rattle.write_limits.proofs.Laws.{plain_below}
use Rattle.write_limits.proofs.splits.fields_of.Goals as goal

pub overflow_cast-result : goal.overflow_cast-result
unfolding fields_of
overflow_cast-result c = omega (arith, plain_below _ _ _ c.plain.ensures)

pub returns : goal.returns
unfolding fields_of
returns c = rw (c.plain.ensures, c.plain_position.ensures, c.plain_position-2.ensures)
