-- For each promise of this crate: two outcomes that meet it are the same, the number returned and all that is lent for writing. Assumes nothing.
use Prim.Native.Nat.{ℕ}
use mathlib.Core.List.{List}
use mathlib.Core.Path.{◌≡◌}
use Rattle.rules.specs.declared.Seal.{Seal}
use Rattle.rules.specs.declared.Seal.TheVariants as seal
use Rattle.c_answers.proofs.Only.{only_answered, only_beside}
use Rattle.c_files.specs.Calls.{CheckAnswered, UsuallyChecked, StrictlyChecked, CountAnswered}

module _ (seal : Seal) (file table answer : List ℕ) (r r' : ℕ) (after after' : List ℕ) where
  pub only_check_answered : (table_now table_now' : List ℕ) → CheckAnswered seal file table answer r table_now after → CheckAnswered seal file table answer r' table_now' after' → (r ≡ r') × (table_now ≡ table_now') × (after ≡ after')
  only_check_answered table_now table_now' = only_beside answer r r' after after' table_now table_now'

module _ (file table answer : List ℕ) (r r' : ℕ) (after after' table_now table_now' : List ℕ) where
  pub only_usually_checked : UsuallyChecked file table answer r table_now after → UsuallyChecked file table answer r' table_now' after' → (r ≡ r') × (table_now ≡ table_now') × (after ≡ after')
  only_usually_checked = only_check_answered seal.Usual file table answer r r' after after' table_now table_now'

  pub only_strictly_checked : StrictlyChecked file table answer r table_now after → StrictlyChecked file table answer r' table_now' after' → (r ≡ r') × (table_now ≡ table_now') × (after ≡ after')
  only_strictly_checked = only_check_answered seal.Strict file table answer r r' after after' table_now table_now'

pub only_count_answered : (file answer : List ℕ) (r r' : ℕ) (after after' : List ℕ) → CountAnswered file answer r after → CountAnswered file answer r' after' → (r ≡ r') × (after ≡ after')
only_count_answered file answer r r' after after' = only_answered answer r r' after after'
