-- `declaration::put_point` meets its contract. Assumes nothing.
use native.Mathlib.Omega.{arith}
use borrow.Author.Rules.{rules}
use Rattle.declaration.proofs.Pointing.{six_put}
use Rattle.declaration.proofs.put_point.Goals as goal

pub returns : goal.returns
returns c =
    let a = c.args in
    six_put a.list.now a.at a.from a.line.now _ c.point_of-p.ensures _ c.behind-length.ensures _ c.put_six.ensures
