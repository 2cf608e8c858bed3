-- Document 02, 'A shelf of flights on the tablet': what packing says, and the buffer afterwards.
use Rattle.std.specs.Prelude.{ℕ, ◌+◌, ◌*◌, ◌≤◌, ◌<◌, cond, List, ◌⊎◌, ◌≡◌, ltb, length, get_or, take, drop}
use Rattle.rules.specs.Choice.{need}
use Rattle.rules.specs.Refusals.{Said, says, no}
use Rattle.rules.specs.declared.Reason.TheVariants as reason
use Rattle.shelf_rules.specs.Ranges.{total}
use Rattle.shelf_rules.specs.Contents.{word_bytes, number_of, start_of, size_of, body_of, sound}

-- "27 SHELF if the buffer breaks these rules": else packing says nothing but that it is done
abbrev pub pack_said : List ℕ → Said (Unit {0})
pack_said b = need (sound b) (no reason.Shelf 0) λ _. says tt

-- the bytes held by the bodies that start before a place
unfoldable pub before : List ℕ → ℕ → ℕ
before b at = total (λ m. cond (ltb (start_of b m) at) (size_of b m) 0) 64

-- "Packing moves bodies to the front in order of start, without gaps": where the body of entry n then starts
abbrev pub packed_start : List ℕ → ℕ → ℕ
packed_start b n = 768 + before b (start_of b n)

-- a place is none of the `size` bytes from a start on
abbrev pub Outside : ℕ → ℕ → ℕ → Type 0
Outside at size i = (i < at) ⊎ (at + size ≤ i)

-- a place is no byte of the start of entry n, where that is told in the table, and none that its packed body covers
abbrev pub Untouched : List ℕ → ℕ → ℕ → Type 0
Untouched b n i = Outside (12 * n + 4) 4 i × Outside (packed_start b n) (size_of b n) i

pub record Packed (b after : List ℕ) : Type 0 where
  pub same_length : length after ≡ length b
  -- "Packing moves bodies to the front in order of start, without gaps": the start of each flight, as it is told in the table
  pub start : (n : ℕ) → n < 64 → (number_of b n ≡ 0 → ⊥) → take 4 (drop (12 * n + 4) after) ≡ word_bytes (packed_start b n)
  -- "and each flight's bytes stay the same": its body, at that start
  pub bytes : (n : ℕ) → n < 64 → (number_of b n ≡ 0 → ⊥) → take (size_of b n) (drop (packed_start b n) after) ≡ body_of b n
  -- "packing only starts and the bytes the moved bodies now cover": each other byte stays
  pub only : (i : ℕ) → ((n : ℕ) → n < 64 → (number_of b n ≡ 0 → ⊥) → Untouched b n i) → get_or after i 0 ≡ get_or b i 0

-- the buffer afterwards; "the shelf is changed by none of them", the refusals
pub record PackedOrSame (b after : List ℕ) : Type 0 where
  pub packed : pack_said b ≡ says tt → Packed b after
  pub refused : (pack_said b ≡ says tt → ⊥) → after ≡ b
