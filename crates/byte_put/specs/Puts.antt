-- The promises of what is put that is no number: a byte, a text; and what several calls have put, one after the other.
use Rattle.std.specs.Prelude.{ℕ, ◌+◌, ◌≤◌, List, [], ◌∷◌, ◌≡◌, length}
use Rattle.std.proofs.lemmas.List.Edits.{sets}
use Rattle.rules.specs.Writes.{put_at}

abbrev pub BytePut : ℕ → ℕ → List ℕ → List ℕ → Type 0
BytePut b at out after = after ≡ put_at out at (b ∷ [])

abbrev pub TextPut : List ℕ → ℕ → List ℕ → List ℕ → Type 0
TextPut text at out after = after ≡ put_at out at text

-- the output afterwards is the output with the text from a place on, where the text has room
pub record Fills (out : List ℕ) (at : ℕ) (text after : List ℕ) : Type 0 where
  pub is : at + length text ≤ length out → after ≡ sets out at text
