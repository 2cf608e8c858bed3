-- `shelf_slot::last_slot` meets its contract: zeros where the buffer ends before its three words. Assumes nothing.
use native.Mathlib.Omega.{arith}
use Rattle.shelf_slot.proofs.Laws.{slot_past}
use Rattle.shelf_slot.proofs.last_slot.Goals as goal

pub returns-then-b-n : goal.returns-then-b-n
returns-then-b-n c = slot_past _ _ _ c.default.ensures (omega arith)
