-- `line_finer::fine_position` meets its contract. Assumes nothing.
use native.Mathlib.Omega.{arith}
use borrow.Author.Rules.{rules}
use Rattle.line_finer.proofs.Laws.{position_made}
use Rattle.line_finer.proofs.fine_position.Goals as goal

pub within-requires : goal.within-requires
within-requires c = (search rules, omega arith)

pub returns : goal.returns
returns c = position_made _ _ _ _ _ _ c.within.ensures c.decimals_of.ensures
