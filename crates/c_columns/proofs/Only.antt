-- For each promise of this crate: two outcomes that meet it are the same, the number returned and all that is lent for writing. Assumes nothing.
use Prim.Native.Nat.{ℕ}
use mathlib.Core.List.{List}
use mathlib.Core.Path.{◌≡◌, sym, ◌∙◌}
use lib.IntN.{ℤ}
use Rattle.c_answers.proofs.Only.{only_answered}
use Rattle.c_columns.specs.Calls.{LookAnswered, NumberAnswered, EntryAnswered, PresenceAnswered}
use Rattle.c_columns.specs.Rows.{ListedAnswered}

module _ (answer : List ℕ) (r r' : ℕ) (after after' : List ℕ) where
  pub only_look_answered : (line ns name : List ℕ) → LookAnswered line ns name answer r after → LookAnswered line ns name answer r' after' → (r ≡ r') × (after ≡ after')
  only_look_answered line ns name = only_answered answer r r' after after'

  pub only_number_answered : (line l name : List ℕ) (number now now' : List ℤ) → NumberAnswered line l name answer number r after now → NumberAnswered line l name answer number r' after' now' → (r ≡ r') × (after ≡ after') × (now ≡ now')
  only_number_answered line l name number now now' n n' =
      (n.told.number ∙ sym n'.told.number, n.told.numbers ∙ sym n'.told.numbers, n.value ∙ sym n'.value)

  pub only_entry_answered : (l : List ℕ) (n : ℕ) → EntryAnswered l n answer r after → EntryAnswered l n answer r' after' → (r ≡ r') × (after ≡ after')
  only_entry_answered l n = only_answered answer r r' after after'

  pub only_presence_answered : (l : List ℕ) → PresenceAnswered l answer r after → PresenceAnswered l answer r' after' → (r ≡ r') × (after ≡ after')
  only_presence_answered l = only_answered answer r r' after after'

  pub only_listed_answered : (n : ℕ) → ListedAnswered n answer r after → ListedAnswered n answer r' after' → (r ≡ r') × (after ≡ after')
  only_listed_answered n = only_answered answer r r' after after'
