-- For each promise of this crate: two outcomes that meet it are the same, the number returned and the answer. Assumes nothing.
use Prim.Native.Nat.{ℕ}
use mathlib.Core.List.{List}
use mathlib.Core.Path.{◌≡◌}
use Rattle.c_answers.proofs.Only.{only_answered}
use Rattle.c_places.specs.Calls.{LineAnswered, StepAnswered}

module _ (file table answer : List ℕ) (r r' : ℕ) (after after' : List ℕ) where
  pub only_line_answered : (n : ℕ) → LineAnswered file table n answer r after → LineAnswered file table n answer r' after' → (r ≡ r') × (after ≡ after')
  only_line_answered n = only_answered answer r r' after after'

pub only_step_answered : (file : List ℕ) (place : ℕ) (answer : List ℕ) (r r' : ℕ) (after after' : List ℕ) → StepAnswered file place answer r after → StepAnswered file place answer r' after' → (r ≡ r') × (after ≡ after')
only_step_answered file place answer r r' after after' = only_answered answer r r' after after'
