-- For each promise of this crate: two outcomes that meet it are the same, the number returned, the lent text and the answer. Assumes nothing.
use Rattle.std.specs.Prelude.{Option}
use Prim.Native.Nat.{ℕ}
use mathlib.Core.List.{List}
use mathlib.Core.Path.{◌≡◌}
use Rattle.c_answers.proofs.Only.{only_beside}
use Rattle.c_refusals.specs.Calls.{TextAnswered, NameAnswered, ExplainAnswered}

module _ (text answer : List ℕ) (r r' : ℕ) (now now' after after' : List ℕ) where
  pub only_text_answered : (words : Option (List ℕ)) → TextAnswered words text answer r now after → TextAnswered words text answer r' now' after' → (r ≡ r') × (now ≡ now') × (after ≡ after')
  only_text_answered words = only_beside answer r r' after after' now now'

  pub only_name_answered : (n : ℕ) → NameAnswered n text answer r now after → NameAnswered n text answer r' now' after' → (r ≡ r') × (now ≡ now') × (after ≡ after')
  only_name_answered n = only_beside answer r r' after after' now now'

  pub only_explain_answered : (file : List ℕ) (n l b : ℕ) → ExplainAnswered file n l b text answer r now after → ExplainAnswered file n l b text answer r' now' after' → (r ≡ r') × (now ≡ now') × (after ≡ after')
  only_explain_answered file n l b = only_beside answer r r' after after' now now'
