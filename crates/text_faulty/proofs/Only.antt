-- For the promise of this crate: two answers that meet it are the same. Assumes nothing.
use Prim.Native.Nat.{ℕ}
use mathlib.Core.List.{List}
use mathlib.Core.Path.{◌≡◌, sym, ◌∙◌}
use Rattle.text_faulty.specs.Faulty.{FaultyTextGiven}

pub only_line_text : (file : List ℕ) (n : ℕ) (r r' : List ℕ) → FaultyTextGiven file n r → FaultyTextGiven file n r' → r ≡ r'
only_line_text file n r r' e e' = e ∙ sym e'
