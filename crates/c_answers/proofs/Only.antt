-- For each promise of this crate: two outcomes that meet it are the same. Assumes nothing.
use Rattle.rules.specs.declared.Presence.{Presence}
use Rattle.std.specs.Prelude.{Result}
use Prim.Native.Nat.{ℕ}
use mathlib.Core.Bool.{Bool}
use mathlib.Core.List.{List}
use mathlib.Core.Path.{◌≡◌, sym, ◌∙◌}
use Rattle.rules.specs.declared.Refusal.{Refusal}
use Rattle.c_answers.specs.Answers.{Answered, AnsweredBeside, AnswerGiven, RefusalNumber, RefusalNumbers, ValueNumbers, CountNumbers, TimeNumbers, PresenceNumbers, BytesBetween}
use Rattle.c_answers.specs.declared.Numbers.{Numbers}

module _ (answer : List ℕ) (r r' : ℕ) (after after' : List ℕ) where
  pub only_answered : {fits : Bool} {n : Numbers} → Answered fits answer n r after → Answered fits answer n r' after' → (r ≡ r') × (after ≡ after')
  only_answered a a' = (a.number ∙ sym a'.number, a.numbers ∙ sym a'.numbers)

  pub only_answer_given : (n : Numbers) → AnswerGiven answer n r after → AnswerGiven answer n r' after' → (r ≡ r') × (after ≡ after')
  only_answer_given n = only_answered

-- for each promise on a call that changes something beside the answer
module _ {A : Type 0} (answer : List ℕ) (r r' : ℕ) (after after' : List ℕ) (now now' : List A) where
  pub only_beside : {fits : Bool} {n : Numbers} {before given : List A} → AnsweredBeside fits answer n before given r after now → AnsweredBeside fits answer n before given r' after' now'
      → (r ≡ r') × (now ≡ now') × (after ≡ after')
  only_beside a a' =
      let o = only_answered answer r r' after after' a.told a'.told in
      (o.0, a.lent ∙ sym a'.lent, o.1)

pub only_refusal_number : (w : Refusal) (r r' : ℕ) → RefusalNumber w r → RefusalNumber w r' → r ≡ r'
only_refusal_number w r r' e e' = e ∙ sym e'

pub only_refusal_numbers : (w : Refusal) (r r' : Numbers) → RefusalNumbers w r → RefusalNumbers w r' → r ≡ r'
only_refusal_numbers w r r' e e' = e ∙ sym e'

pub only_value_numbers : (values : List ℕ) (r r' : Numbers) → ValueNumbers values r → ValueNumbers values r' → r ≡ r'
only_value_numbers values r r' e e' = e ∙ sym e'

pub only_count_numbers : (read : Result ℕ Refusal) (r r' : Numbers) → CountNumbers read r → CountNumbers read r' → r ≡ r'
only_count_numbers read r r' e e' = e ∙ sym e'

pub only_time_numbers : (read : Result ℕ Refusal) (r r' : Numbers) → TimeNumbers read r → TimeNumbers read r' → r ≡ r'
only_time_numbers read r r' e e' = e ∙ sym e'

pub only_presence_numbers : (read : Result Presence Refusal) (r r' : Numbers) → PresenceNumbers read r → PresenceNumbers read r' → r ≡ r'
only_presence_numbers read r r' e e' = e ∙ sym e'

pub only_bytes_between : (from to r r' : ℕ) → BytesBetween from to r → BytesBetween from to r' → r ≡ r'
only_bytes_between from to r r' e e' = e ∙ sym e'
