-- For each promise of this crate: two answers that meet it are the same, and so is the buffer afterwards. Assumes nothing.
use Prim.Native.Nat.{ℕ}
use mathlib.Core.List.{List}
use mathlib.Core.Path.{◌≡◌, sym, ◌∙◌}
use Rattle.text_pieces.specs.Buffer.{Shown, PiecePut}

module _ (out : List ℕ) (r r' : ℕ) (after after' : List ℕ) where
  pub only_shown : {text : List ℕ} → Shown text out r after → Shown text out r' after' → (r ≡ r') × (after ≡ after')
  only_shown s s' = (s.count ∙ sym s'.count, s.bytes ∙ sym s'.bytes)

  pub only_piece_put : (at : ℕ) (text : List ℕ) → PiecePut out at text r after → PiecePut out at text r' after' → (r ≡ r') × (after ≡ after')
  only_piece_put at text s s' = (s.next ∙ sym s'.next, s.bytes ∙ sym s'.bytes)
