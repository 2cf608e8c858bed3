-- `summary_fix::negative` meets its contract. Assumes nothing.
use native.Mathlib.Omega.{arith}
use mir.Syntax.{w32}
use Rattle.byte_number.proofs.Signs.{neg_stays, neg_back}
use Rattle.summary_fix.proofs.negative.Goals as goal

pub overflow_sub-result : goal.overflow_sub-result
overflow_sub-result c = neg_stays w32 c.args.n (omega arith)

pub returns : goal.returns
returns c = rw (neg_back w32 c.args.n (omega arith))
