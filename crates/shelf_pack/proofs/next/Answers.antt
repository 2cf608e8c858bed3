-- `shelf_pack::next` meets its contract: of the entries so far, the one that starts least from the place on. Assumes nothing.
use native.Mathlib.Omega.{arith}
use Rattle.shelf_pack.proofs.Nexts.{next_none, next_all}
use Rattle.shelf_pack.proofs.next.Goals as goal

pub returns : goal.returns
returns c =
    let a = c.args in
    let l = c.loop-n in
    next_all a.shelf.now a.from l.n l.best (omega arith) l.invariant

pub loop-n-init : goal.loop-n-init
loop-n-init c = next_none _ _ 0

pub nearer-best-requires : goal.nearer-best-requires
nearer-best-requires c = c.loop-n.invariant

pub loop-n-preserved : goal.loop-n-preserved
loop-n-preserved c = c.nearer-best.ensures
