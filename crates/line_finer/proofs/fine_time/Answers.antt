-- `line_finer::fine_time` meets its contract. Assumes nothing.
use native.Mathlib.Omega.{arith}
use Rattle.line_finer.proofs.Laws.{time_few, time_made}
use Rattle.line_finer.proofs.fine_time.Goals as goal

pub within-requires : goal.within-requires
within-requires c = (omega arith, omega arith)

pub overflow_cast-result : goal.overflow_cast-result
overflow_cast-result c = let a = c.args in rw c.within.ensures (omega (arith, time_few a.line.now a.reach a.time))

pub returns : goal.returns
returns c = time_made _ _ _ _ _ c.within.ensures c.decimals_of.ensures
