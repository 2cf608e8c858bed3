-- `shelf_pack::nearer` meets its contract: the entry n takes the place of the one in hand where it starts from the place on, and before it. Assumes nothing.
use native.Mathlib.Omega.{arith}
use Rattle.shelf_pack.proofs.Nexts.{start_is, next_at, next_nothing, next_skip, next_old, next_new, next_one}
use Rattle.shelf_pack.proofs.nearer.Goals as goal

pub returns-then-start-from : goal.returns-then-start-from
returns-then-start-from c =
    let a = c.args in
    let e = start_is _ _ _ c.slot_at-start.ensures in
    next_skip a.shelf.now a.from a.n a.best (omega arith) c.requires

pub returns-in-Some : goal.returns-in-Some
returns-in-Some c =
    let a = c.args in
    let e = start_is _ _ _ c.slot_at-start.ensures in
    let f = start_is _ _ _ c.slot_at.ensures in
    let x = next_at a.shelf.now a.from a.n _ a.best c.in-Some.is c.requires in
    next_old a.shelf.now a.from a.n _ (omega arith) x

pub returns-in_default : goal.returns-in_default
returns-in_default c =
    let a = c.args in
    let e = start_is _ _ _ c.slot_at-start.ensures in
    let f = start_is _ _ _ c.slot_at.ensures in
    let x = next_at a.shelf.now a.from a.n _ a.best c.in-Some.is c.requires in
    next_new a.shelf.now a.from a.n _ (omega arith) (omega arith) x

pub returns-in_default-2 : goal.returns-in_default-2
returns-in_default-2 c =
    let a = c.args in
    let e = start_is _ _ _ c.slot_at-start.ensures in
    next_one a.shelf.now a.from a.n (omega arith) (next_nothing a.shelf.now a.from a.n a.best c.in_default.is c.requires)
