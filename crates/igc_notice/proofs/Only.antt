-- For each promise of this crate: two answers that meet it are the same, and so is the buffer afterwards. Assumes nothing.
use Prim.Native.Nat.{ℕ}
use mathlib.Core.List.{List}
use mathlib.Core.Path.{◌≡◌}
use Rattle.rules.specs.declared.Flight.{Flight}
use Rattle.rules.specs.declared.Refusal.{Refusal}
use Rattle.text_pieces.proofs.Only.{only_piece_put}
use Rattle.igc_notice.specs.Notice.{HeadingPut, AcceptedPut, FitPut, RefusedPut, FailedPut, BothPut, BesidePut, NotedPut, TabledPut}

module _ (name out : List ℕ) (r r' : ℕ) (after after' : List ℕ) where
  pub only_heading_put : HeadingPut name out r after → HeadingPut name out r' after' → (r ≡ r') × (after ≡ after')
  only_heading_put = only_piece_put out r r' after after' 0 _

  pub only_accepted_put : (f : Flight) → AcceptedPut name f out r after → AcceptedPut name f out r' after' → (r ≡ r') × (after ≡ after')
  only_accepted_put f = only_piece_put out r r' after after' 0 _

  pub only_fit_put : (f : Flight) (file : List ℕ) → FitPut name f file out r after → FitPut name f file out r' after' → (r ≡ r') × (after ≡ after')
  only_fit_put f file = only_piece_put out r r' after after' 0 _

  pub only_refused_put : (file : List ℕ) (why : Refusal) → RefusedPut name file why out r after → RefusedPut name file why out r' after' → (r ≡ r') × (after ≡ after')
  only_refused_put file why = only_piece_put out r r' after after' 0 _

  pub only_failed_put : (why : List ℕ) → FailedPut name why out r after → FailedPut name why out r' after' → (r ≡ r') × (after ≡ after')
  only_failed_put why = only_piece_put out r r' after after' 0 _

  pub only_both_put : (second : List ℕ) → BothPut name second out r after → BothPut name second out r' after' → (r ≡ r') × (after ≡ after')
  only_both_put second = only_piece_put out r r' after after' 0 _

  pub only_beside_put : BesidePut name out r after → BesidePut name out r' after' → (r ≡ r') × (after ≡ after')
  only_beside_put = only_piece_put out r r' after after' 0 _

  pub only_noted_put : (notes : ℕ) → NotedPut name notes out r after → NotedPut name notes out r' after' → (r ≡ r') × (after ≡ after')
  only_noted_put notes = only_piece_put out r r' after after' 0 _

  pub only_tabled_put : (text : List ℕ) → TabledPut text name out r after → TabledPut text name out r' after' → (r ≡ r') × (after ≡ after')
  only_tabled_put text = only_piece_put out r r' after after' 0 _
