-- For each promise of this crate: two outcomes that meet it are the same, the number returned, the answer and the output. Assumes nothing.
use Prim.Native.Nat.{ℕ}
use mathlib.Core.List.{List}
use mathlib.Core.Path.{◌≡◌}
use Rattle.rules.specs.Refusals.{Said}
use Rattle.rules.specs.declared.Fix.{Fix}
use Rattle.rules.specs.declared.Head.{Head}
use Rattle.rules.specs.declared.Point.{Point}
use Rattle.c_answers.proofs.Only.{only_beside}
use Rattle.c_writers.specs.Calls.{WriteAnswered, WriteFixAnswered, WriteExtraAnswered, WriteLayoutAnswered, WriteHeadAnswered, WritePointAnswered}

module _ (answer : List ℕ) (r r' : ℕ) (after after' : List ℕ) where
  pub only_write_answered : (said : Said ℕ) (text : List ℕ) (place : ℕ) (out now now' : List ℕ) → WriteAnswered said text place out answer r now after → WriteAnswered said text place out answer r' now' after' → (r ≡ r') × (now ≡ now') × (after ≡ after')
  only_write_answered said text place out now now' = only_beside answer r r' after after' now now'

  pub only_write_fix_answered : (f : Fix) (columns l : List ℕ) (place : ℕ) (out now now' : List ℕ) → WriteFixAnswered f columns l place out answer r now after → WriteFixAnswered f columns l place out answer r' now' after' → (r ≡ r') × (now ≡ now') × (after ≡ after')
  only_write_fix_answered f columns l place out now now' = only_beside answer r r' after after' now now'

  pub only_write_extra_answered : (kind t : ℕ) (columns l : List ℕ) (place : ℕ) (out now now' : List ℕ) → WriteExtraAnswered kind t columns l place out answer r now after → WriteExtraAnswered kind t columns l place out answer r' now' after' → (r ≡ r') × (now ≡ now') × (after ≡ after')
  only_write_extra_answered kind t columns l place out now now' = only_beside answer r r' after after' now now'

  pub only_write_layout_answered : (l : List ℕ) (place : ℕ) (out now now' : List ℕ) → WriteLayoutAnswered l place out answer r now after → WriteLayoutAnswered l place out answer r' now' after' → (r ≡ r') × (now ≡ now') × (after ≡ after')
  only_write_layout_answered l place out now now' = only_beside answer r r' after after' now now'

  pub only_write_head_answered : (h : Head) (text : List ℕ) (place : ℕ) (out now now' : List ℕ) → WriteHeadAnswered h text place out answer r now after → WriteHeadAnswered h text place out answer r' now' after' → (r ≡ r') × (now ≡ now') × (after ≡ after')
  only_write_head_answered h text place out now now' = only_beside answer r r' after after' now now'

  pub only_write_point_answered : (p : Point) (text : List ℕ) (place : ℕ) (out now now' : List ℕ) → WritePointAnswered p text place out answer r now after → WritePointAnswered p text place out answer r' now' after' → (r ≡ r') × (now ≡ now') × (after ≡ after')
  only_write_point_answered p text place out now now' = only_beside answer r r' after after' now now'
