-- `fix_values` meets its contract: each number stands at its place. Assumes nothing.
use borrow.Author.Rules.{rules}
use Rattle.c_fixes.proofs.fix_values.Goals as goal

pub returns : goal.returns
returns c = c.accepted.ensures
