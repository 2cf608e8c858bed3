-- Document 02, 'A shelf of flights on the tablet': the table of contents, and when a buffer keeps the rules of a shelf.
use Rattle.std.specs.Prelude.{ℕ, ◌+◌, ◌*◌, ◌/◌, ◌%◌, ◌≤◌, ◌<◌, Bool, not, ◌&&◌, ◌||◌, cond, List, [], ◌∷◌, ◌++◌, ◌⊎◌, ◌≡◌, eqb, leb, length, get_or, take, drop}
use Rattle.shelf_rules.specs.Ranges.{every, total}
use Rattle.shelf_rules.specs.declared.Slot.{Slot}

-- ---- "An entry is flight number, start and length, each a u32 with its low byte first"

unfoldable pub word : List ℕ → ℕ → ℕ
word b at = get_or b at 0 + 256 * get_or b (at + 1) 0 + 65536 * get_or b (at + 2) 0 + 16777216 * get_or b (at + 3) 0

unfoldable pub word_bytes : ℕ → List ℕ
word_bytes v = v % 256 ∷ v / 256 % 256 ∷ v / 256 / 256 % 256 ∷ v / 256 / 256 / 256 % 256 ∷ []

-- "a table of contents first, 64 entries of 12 bytes": of entry n, counted from 0
abbrev pub number_of : List ℕ → ℕ → ℕ
number_of b n = word b (12 * n)

abbrev pub start_of : List ℕ → ℕ → ℕ
start_of b n = word b (12 * n + 4)

abbrev pub size_of : List ℕ → ℕ → ℕ
size_of b n = word b (12 * n + 8)

-- where its body ends
abbrev pub end_of : List ℕ → ℕ → ℕ
end_of b n = start_of b n + size_of b n

abbrev pub slot_of : List ℕ → ℕ → Slot
slot_of b n = record { number = number_of b n; start = start_of b n; size = size_of b n }

unfoldable pub slot_bytes : Slot → List ℕ
slot_bytes s = word_bytes s.number ++ (word_bytes s.start ++ word_bytes s.size)

-- the bytes of its body
abbrev pub body_of : List ℕ → ℕ → List ℕ
body_of b n = take (size_of b n) (drop (start_of b n) b)

-- "the bytes held by all bodies"; a free entry holds none
unfoldable pub held : List ℕ → ℕ
held b = total (size_of b) 64

-- ---- "27 SHELF if the buffer breaks these rules"

-- "flight number 0 is a free entry, whose other bytes are 0. Bodies have at least one byte, lie inside the part from 768": of one entry, in a buffer of `room` bytes
unfoldable pub one_kept : ℕ → Slot → Bool
one_kept room s =
    cond (eqb s.number 0)
    (eqb s.start 0 && eqb s.size 0)
    (leb 1 s.size && (leb 768 s.start && leb (s.start + s.size) room))

abbrev pub slot_kept : List ℕ → ℕ → Bool
slot_kept b n = one_kept (length b) (slot_of b n)

-- the bytes from a up to e and those from a' up to e' don't overlap; those of a free entry, from 0 up to 0, overlap none
abbrev pub clear : ℕ → ℕ → ℕ → ℕ → Bool
clear a e a' e' = leb e a' || leb e' a

-- "and don't overlap; no flight number is used twice": of two entries
unfoldable pub two_kept : Slot → Slot → Bool
two_kept s t =
    clear s.start (s.start + s.size) t.start (t.start + t.size) && (eqb s.number 0 || not (eqb s.number t.number))

abbrev pub pair_kept : List ℕ → ℕ → ℕ → Bool
pair_kept b n m = two_kept (slot_of b n) (slot_of b m)

-- entry n keeps the rules, alone and with each entry before it
unfoldable pub slot_sound : List ℕ → ℕ → Bool
slot_sound b n = slot_kept b n && every (pair_kept b n) n

-- "one lent buffer of 768 to 16,777,216 bytes"
unfoldable pub sound : List ℕ → Bool
sound b = leb 768 (length b) && (leb (length b) 16777216 && every (slot_sound b) 64)

-- ---- the same rules read aloud

-- of any table of numbers, starts and sizes in a buffer of `room` bytes
pub record Kept (number start size : ℕ → ℕ) (room : ℕ) : Type 0 where
  -- "flight number 0 is a free entry, whose other bytes are 0"
  pub free : (n : ℕ) → n < 64 → number n ≡ 0 → (start n ≡ 0) × (size n ≡ 0)
  -- "Bodies have at least one byte"
  pub some_byte : (n : ℕ) → n < 64 → (number n ≡ 0 → ⊥) → 1 ≤ size n
  -- "lie inside the part from 768"
  pub from_768 : (n : ℕ) → n < 64 → (number n ≡ 0 → ⊥) → 768 ≤ start n
  pub inside : (n : ℕ) → n < 64 → (number n ≡ 0 → ⊥) → start n + size n ≤ room
  -- "and don't overlap"
  pub apart : (n m : ℕ) → n < 64 → m < n → (start n + size n ≤ start m) ⊎ (start m + size m ≤ start n)
  -- "no flight number is used twice"
  pub once : (n m : ℕ) → n < 64 → m < n → number n ≡ number m → number n ≡ 0

pub record Sound (b : List ℕ) : Type 0 where
  pub least_room : 768 ≤ length b
  pub most_room : length b ≤ 16777216
  pub kept : Kept (number_of b) (start_of b) (size_of b) (length b)
