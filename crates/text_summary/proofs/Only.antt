-- Two answers that meet the promise are the same, and so is the buffer afterwards. Assumes nothing.
use Prim.Native.Nat.{ℕ}
use mathlib.Core.List.{List}
use mathlib.Core.Path.{◌≡◌}
use lib.IntN.{ℤ}
use Rattle.rules.specs.declared.Date.{Date}
use Rattle.text_pieces.proofs.Only.{only_piece_put}
use Rattle.text_summary.specs.Outline.{OutlinePut}

pub only_outline_put : (d : Date) (l : List ℤ) (out : List ℕ) (r r' : ℕ) (after after' : List ℕ) → OutlinePut d l out r after → OutlinePut d l out r' after' → (r ≡ r') × (after ≡ after')
only_outline_put d l out r r' after after' = only_piece_put out r r' after after' 0 _
