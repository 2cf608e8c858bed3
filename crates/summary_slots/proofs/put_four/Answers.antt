-- `summary_slots::put_four` meets its contract. Assumes nothing.
use mir.Syntax.{w32}
use mir.Facts.{to_z-of_z}
use Rattle.summary_slots.proofs.Laws.{four_set}
use native.Mathlib.Omega.{arith}
use lib.ListN.{length-set}
use Rattle.summary_slots.proofs.put_four.Goals as goal

pub bounds-list-at-2 : goal.bounds-list-at-2
bounds-list-at-2 c = simp length-set (omega arith)

pub bounds-list-at-3 : goal.bounds-list-at-3
bounds-list-at-3 c = simp length-set (omega arith)

pub bounds-list-at-4 : goal.bounds-list-at-4
bounds-list-at-4 c = simp length-set (omega arith)

pub returns : goal.returns
returns c =
    four_set c.args.list.now _ _ _ _ _ _ _ _ _
    (to_z-of_z {w = w32} (record { sfits = c.struct_told-1.given.0.1 }))
    (to_z-of_z {w = w32} (record { sfits = c.struct_told-2-1.given.0.1 }))
    (to_z-of_z {w = w32} (record { sfits = c.struct_told-3-1.given.0.1 }))
    (to_z-of_z {w = w32} (record { sfits = c.struct_told-4-1.given.0.1 }))
