-- `declaration::put_six` meets its contract. Assumes nothing.
use native.Mathlib.Omega.{arith}
use borrow.Author.Rules.{rules}
use Rattle.declaration.proofs.Pointing.{six_there}
use Rattle.declaration.proofs.put_six.Goals as goal

pub returns : goal.returns
returns c = six_there _ _ _ _ _ (search rules) (omega arith) c.requires c.copy_from_slice.ensures.after
