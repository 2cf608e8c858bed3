-- For each promise of this crate: two outcomes that meet it are the same, the number returned and all that is lent for writing. Assumes nothing.
use Prim.Native.Nat.{ℕ}
use mathlib.Core.List.{List}
use mathlib.Core.Path.{◌≡◌, sym, ◌∙◌}
use lib.IntN.{ℤ}
use Rattle.c_fixes.specs.Calls.{FixAnswered, ExtraAnswered}

module _ (answer entries : List ℕ) (r r' : ℕ) (after after' es es' : List ℕ) where
  pub only_fix_answered : (line l : List ℕ) (heights now now' : List ℤ) → FixAnswered line l answer heights entries r after now es → FixAnswered line l answer heights entries r' after' now' es'
      → (r ≡ r') × (after ≡ after') × (now ≡ now') × (es ≡ es')
  only_fix_answered line l heights now now' f f' = (
    f.told.number ∙ sym f'.told.number,
    f.told.numbers ∙ sym f'.told.numbers,
    f.metres ∙ sym f'.metres,
    f.columns ∙ sym f'.columns,
  )

  pub only_extra_answered : (line l : List ℕ) → ExtraAnswered line l answer entries r after es → ExtraAnswered line l answer entries r' after' es' → (r ≡ r') × (after ≡ after') × (es ≡ es')
  only_extra_answered line l f f' = (f.told.number ∙ sym f'.told.number, f.told.numbers ∙ sym f'.told.numbers, f.columns ∙ sym f'.columns)
