-- The promises of what puts a number into a buffer, and of what moves bytes in it.
use Rattle.std.specs.Prelude.{ℕ, ◌+◌, List, ◌≡◌, leb, length, take, drop}
use Rattle.std.proofs.lemmas.List.Edits.{sets}
use Rattle.rules.specs.Choice.{need}
use Rattle.rules.specs.Writes.{put_at}
use Rattle.shelf_rules.specs.Contents.{word_bytes}

-- a number from a place on, where its four bytes have room
abbrev pub WordPut : ℕ → ℕ → List ℕ → List ℕ → Type 0
WordPut v at b after = after ≡ put_at b at (word_bytes v)

-- n bytes moved down, where they lie inside the buffer and their new place is not behind their old one; else nothing changes
unfoldable pub moved_down : List ℕ → ℕ → ℕ → ℕ → List ℕ
moved_down b to from n =
    need (leb to from) b λ _.
    need (leb (from + n) (length b)) b λ _.
    sets b to (take n (drop from b))

abbrev pub BytesMoved : ℕ → ℕ → ℕ → List ℕ → List ℕ → Type 0
BytesMoved to from n b after = after ≡ moved_down b to from n
