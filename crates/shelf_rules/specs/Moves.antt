-- Packing, one body at a time: which body is next, and the buffer with that body moved.
use Rattle.std.specs.Prelude.{ℕ, ◌+◌, ◌*◌, ◌≤◌, ◌<◌, List, None, Option, Some}
use Rattle.std.proofs.lemmas.List.Edits.{sets}
use Rattle.shelf_rules.specs.Contents.{word_bytes, start_of, body_of}

-- of the first k entries, the one that starts least from a place on
abbrev pub NextOf : List ℕ → ℕ → ℕ → Option ℕ → Type 0
NextOf b from k (Some n) = (n < k) × (from ≤ start_of b n) × ((m : ℕ) → m < k → from ≤ start_of b m → start_of b n ≤ start_of b m)
NextOf b from k None = (m : ℕ) → m < k → start_of b m < from

-- the body of entry n moved down to a place, and that place told as its start
abbrev pub moved_to : List ℕ → ℕ → ℕ → List ℕ
moved_to b n at = sets (sets b at (body_of b n)) (12 * n + 4) (word_bytes at)
