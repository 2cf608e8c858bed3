-- `line_check::satellites` meets its contract: each way out is a way through `f_line`. Assumes nothing.
use native.Mathlib.Omega.{arith}
use Rattle.line_check.proofs.Laws.{pair_within}
use Rattle.line_check.proofs.satellites.Goals as goal

pub overflow_add-i : goal.overflow_add-i
overflow_add-i c = omega (arith, pair_within _ _ _ _ _ _ c.bad_pair.ensures c.in-Some-bad_pair.is c.shaped.ensures c.in_ok-shaped.was)

pub overflow_cast-i : goal.overflow_cast-i
overflow_cast-i c = omega (arith, pair_within _ _ _ _ _ _ c.bad_pair.ensures c.in-Some-bad_pair.is c.shaped.ensures c.in_ok-shaped.was)
