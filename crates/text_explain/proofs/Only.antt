-- For each promise of this crate: two answers that meet it are the same, and so is the buffer afterwards. Assumes nothing.
use Prim.Native.Nat.{ℕ}
use mathlib.Core.List.{List}
use mathlib.Core.Path.{◌≡◌}
use Rattle.rules.specs.declared.Refusal.{Refusal}
use Rattle.text_pieces.proofs.Only.{only_shown}
use Rattle.text_explain.specs.Explanation.{RefusalExplained}

pub only_refusal_explained : (file : List ℕ) (why : Refusal) (out : List ℕ) (r r' : ℕ) (after after' : List ℕ)
    → RefusalExplained file why out r after → RefusalExplained file why out r' after' → (r ≡ r') × (after ≡ after')
only_refusal_explained file why out r r' after after' = only_shown out r r' after after'
