-- Entries by their words. Assumes nothing.
use Prim.Native.Nat.{ℕ, ◌+◌, ◌*◌, ◌≤◌}
use mathlib.Core.List.{List}
use mathlib.Core.Path.{◌≡◌}
use native.Mathlib.Omega.{arith}
use lib.ListN.{length, get_or, get_or-eq_default}
use Rattle.byte_put.specs.Puts.{Fills}
use Rattle.byte_put.proofs.Laws.{put_then, put_last}
use Rattle.rules.specs.Writes.{put_at}
use Rattle.shelf_rules.specs.Contents.{word, word_bytes, slot_of, slot_bytes}
use Rattle.shelf_rules.specs.declared.Slot.{Slot}
use Rattle.shelf_bytes.proofs.Laws.{word_length}

-- ---- reading

-- past the end stands 0
pub word_past : (l : List ℕ) (at : ℕ) → length l ≤ at → word l at ≡ 0
unfolding word
word_past l at h =
    let z : (k : ℕ) → get_or l (at + k) 0 ≡ 0 = λ k. get_or-eq_default l 0 (omega arith) in
    rw (get_or-eq_default l 0 h, z 1, z 2, z 3)

pub slot_past : (l : List ℕ) (n : ℕ) (s : Slot) → (s.number ≡ 0) × ((s.start ≡ 0) × (s.size ≡ 0)) → length l ≤ 12 * n → s ≡ slot_of l n
slot_past l n s e h =
    let z : ◌≡◌ {A = Slot} (record { number = s.number; start = s.start; size = s.size }) (record { number = 0; start = 0; size = 0 }) = rw (e.0, e.1.0, e.1.1) in
    rw (word_past l (12 * n) h, word_past l (12 * n + 4) (omega arith), word_past l (12 * n + 8) (omega arith)) z

-- ---- putting

-- an entry by its three words
pub slot_then : (x l l₁ l₂ : List ℕ) (at : ℕ) (s : Slot) → l₁ ≡ put_at l at (word_bytes s.number) → l₂ ≡ put_at l₁ (at + 4) (word_bytes s.start)
    → x ≡ put_at l₂ (at + 8) (word_bytes s.size) → Fills l at (slot_bytes s) x
unfolding slot_bytes
slot_then x l l₁ l₂ at s e f g =
    let k : at + 8 ≡ at + 4 + 4 = omega arith in
    put_then x l l₁ at (word_bytes s.number) _ 4 (word_length s.number) e
    (put_then x l₁ l₂ (at + 4) (word_bytes s.start) _ 4 (word_length s.start) f (put_last x l₂ (at + 4 + 4) (word_bytes s.size) (rw k at g)))
