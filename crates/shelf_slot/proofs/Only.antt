-- One answer, or one buffer, at most meets each promise of this crate. Assumes nothing.
use Prim.Native.Nat.{ℕ}
use mathlib.Core.List.{List}
use Rattle.rules_only.proofs.Only.{Only, same}
use Rattle.shelf_rules.specs.declared.Slot.{Slot}
use Rattle.shelf_slot.specs.Entries.{SlotRead, ClearTest, SlotPut}

pub only_slot_read : (b : List ℕ) (n : ℕ) → Only (SlotRead b n)
only_slot_read b n = same

pub only_clear_test : (start size : ℕ) (t : Slot) → Only (ClearTest start size t)
only_clear_test start size t = same

pub only_slot_put : (s : Slot) (n : ℕ) (b : List ℕ) → Only (SlotPut s n b)
only_slot_put s n b = same
