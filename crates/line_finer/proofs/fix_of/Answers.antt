-- `line_finer::fix_of` meets its contract. Assumes nothing.
use native.Mathlib.Omega.{arith}
use Rattle.line_finer.proofs.Laws.{fix_made_of}
use Rattle.line_finer.proofs.fix_of.Goals as goal

pub fine_position-requires : goal.fine_position-requires
fine_position-requires c = omega arith

pub fine_position-requires-2 : goal.fine_position-requires-2
fine_position-requires-2 c = omega arith

pub returns : goal.returns
returns c = fix_made_of _ _ _ _ _ _ c.fine_time.ensures c.fine_position.ensures c.fine_position-2.ensures
