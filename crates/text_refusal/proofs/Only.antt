-- For each promise of this crate: two answers that meet it are the same, and so is the buffer afterwards. Assumes nothing.
use Prim.Native.Nat.{ℕ}
use mathlib.Core.List.{List}
use mathlib.Core.Path.{◌≡◌, sym, ◌∙◌}
use Rattle.text_pieces.proofs.Only.{only_piece_put}
use Rattle.rules.specs.declared.Reason.{Reason}
use Rattle.text_refusal.specs.Table.{NumberOf, NamePut, MeaningPut, name, meaning}

pub only_number_of : (reason : Reason) (r r' : ℕ) → NumberOf reason r → NumberOf reason r' → r ≡ r'
only_number_of reason r r' e e' = e ∙ sym e'

module _ (reason : Reason) (out : List ℕ) (at r r' : ℕ) (after after' : List ℕ) where
  pub only_name_put : NamePut reason out at r after → NamePut reason out at r' after' → (r ≡ r') × (after ≡ after')
  only_name_put = only_piece_put out r r' after after' at (name reason)

  pub only_meaning_put : MeaningPut reason out at r after → MeaningPut reason out at r' after' → (r ≡ r') × (after ≡ after')
  only_meaning_put = only_piece_put out r r' after after' at (meaning reason)
