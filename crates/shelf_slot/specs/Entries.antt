-- The promises of what reads and puts an entry of a shelf.
use Rattle.std.specs.Prelude.{ℕ, ◌+◌, ◌*◌, Bool, List, ◌≡◌}
use Rattle.rules.specs.Writes.{put_at}
use Rattle.shelf_rules.specs.Contents.{slot_of, slot_bytes, clear}
use Rattle.shelf_rules.specs.declared.Slot.{Slot}

-- the entry n, a byte past the end of the buffer being 0
abbrev pub SlotRead : List ℕ → ℕ → Slot → Type 0
SlotRead b n r = r ≡ slot_of b n

-- `size` bytes from a start on overlap no byte of an entry's body
abbrev pub ClearTest : ℕ → ℕ → Slot → Bool → Type 0
ClearTest start size t r = r ≡ clear start (start + size) t.start (t.start + t.size)

-- the entry n, where its bytes have room
abbrev pub SlotPut : Slot → ℕ → List ℕ → List ℕ → Type 0
SlotPut s n b after = after ≡ put_at b (12 * n) (slot_bytes s)
