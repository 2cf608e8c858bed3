-- What stands in a lent buffer when a text was put into it: a piece of it, from a place on; or the whole, from the start.
use Rattle.std.specs.Prelude.{ℕ, ◌+◌, ◌-◌, List, ◌++◌, ◌≡◌, length, take, drop}
use Rattle.std.proofs.lemmas.List.Edits.{sets}

-- a piece: as much of the text as has room stands in the buffer from a place on, and the answer is the place behind it
pub record PiecePut (out : List ℕ) (at : ℕ) (text : List ℕ) (r : ℕ) (after : List ℕ) : Type 0 where
  pub bytes : after ≡ sets out at (take (length out - at) text)
  pub next : r ≡ at + length (take (length out - at) text)

-- the buffer afterwards begins with the whole text and is behind it as it was; the answer is how many bytes the text has
pub record Shown (text out : List ℕ) (r : ℕ) (after : List ℕ) : Type 0 where
  pub bytes : after ≡ text ++ drop (length text) out
  pub count : r ≡ length text
