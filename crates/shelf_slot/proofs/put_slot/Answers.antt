-- `shelf_slot::put_slot` meets its contract: its three words stand there, or have no room. Assumes nothing.
use mathlib.Core.Path.{refl}
use native.Mathlib.Omega.{arith}
use borrow.Author.Tests.{ltb-true, ltb-false}
use Rattle.shelf_slot.proofs.put_slot.Goals.{then-b-lt12-via-then-b-lt12, then-b-lt12-via-else-b-lt12+then-b-n}
use Rattle.shelf_rules.proofs.Bytes.{slot_length}
use Rattle.byte_put.proofs.Laws.{put_past, put_there}
use Rattle.shelf_slot.proofs.Laws.{slot_then}
use Rattle.shelf_slot.proofs.put_slot.Goals as goal

pub returns-then-b-lt12 : goal.returns-then-b-lt12
returns-then-b-lt12 c = elim c.then-b-lt12.branch [ then-b-lt12-via-then-b-lt12 w ↦ put_past _ _ _ _ 12 (slot_length _) (omega arith) refl | then-b-lt12-via-else-b-lt12+then-b-n w ↦ put_past _ _ _ _ 12 (slot_length _) (omega (arith, ltb-true)) refl ]

pub returns : goal.returns
returns c = put_there _ _ _ _ 12 (slot_length _) (omega (arith, ltb-false)) (search slot_then)
