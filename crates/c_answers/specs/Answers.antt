-- What a call from C returns and leaves in the lent answer: the paper's number, the line and byte of a refusal, and the values as plain numbers.
use Rattle.std.specs.Prelude.{ℕ, zero, suc, ◌-◌, Bool, cond, List, [], ◌∷◌, ◌≡◌, eqb, length, Err, Ok, Result, ⊤}
use Rattle.rules.specs.Refusals.{Said, says, refuses, number, result_told}
use Rattle.rules.specs.declared.Presence.{Presence}
use Rattle.rules.specs.declared.Refusal.{Refusal}
use Rattle.c_answers.specs.declared.Numbers.{Numbers}

-- how many numbers an answer has
abbrev pub size : ℕ
size = 16

-- n numbers: those of a list, and 0 behind the last
abbrev pub filled : ℕ → List ℕ → List ℕ
filled zero values = []
filled (suc n) [] = 0 ∷ filled n []
filled (suc n) (v ∷ values) = v ∷ filled n values

-- a good call: no line and no byte of a refusal, then the values
abbrev pub accepting : List ℕ → Numbers
accepting values = record { number = 0; values = filled size (0 ∷ 0 ∷ values) }

-- a refused call: "number, line, byte"; "A refused reading returns no value."
abbrev pub refusing : ℕ → ℕ → ℕ → Numbers
refusing n l b = record { number = n; values = filled size (l ∷ b ∷ []) }

module _ {A : Type 0} where
  -- what is said of a value, as numbers
  abbrev pub in_numbers : (A → List ℕ) → Said A → Numbers
  in_numbers values (says v) = accepting (values v)
  in_numbers values (refuses n l b) = refusing n l b

module _ {A : Type 0} where
  -- the number that is returned, where there is no answer beside it
  abbrev pub number_of : Said A → ℕ
  number_of (says v) = 0
  number_of (refuses n l b) = n

-- an outcome with the values that stand beside it
abbrev pub outcome_numbers : List ℕ → Result ⊤ Refusal → Numbers
outcome_numbers values (Ok tt) = accepting values
outcome_numbers values (Err w) = refusing (number w.reason) w.line w.byte

module _ {A : Type 0} where
  -- what is lent for writing has as many numbers as it is to have
  abbrev pub has_room : ℕ → List A → Bool
  has_room n lent = eqb (length lent) n

-- Where all that is lent has its lengths, the number is returned and the answer is the numbers; else "17 BAD_VALUE", and nothing is changed.
pub record Answered (fits : Bool) (answer : List ℕ) (n : Numbers) (r : ℕ) (after : List ℕ) : Type 0 where
  pub number : r ≡ cond fits n.number 17
  pub numbers : after ≡ cond fits n.values answer

-- Something else is lent for writing beside the answer. Where all that is lent has its lengths, what was `before` is afterwards `given`; else it is as it was.
pub record AnsweredBeside {A : Type 0} (fits : Bool) (answer : List ℕ) (n : Numbers) (before given : List A) (r : ℕ) (answer_now : List ℕ) (now : List A) : Type 0 where
  pub told : Answered fits answer n r answer_now
  pub lent : now ≡ cond fits given before

-- a count, a place
abbrev pub count_numbers : ℕ → List ℕ
count_numbers n = n ∷ []

-- seconds of the day
abbrev pub time_numbers : ℕ → List ℕ
time_numbers t = t ∷ []

-- the presence word and its count
abbrev pub presence_numbers : Presence → List ℕ
presence_numbers p = p.word ∷ p.count ∷ []

-- ---- the promises of this crate's functions

abbrev pub AnswerGiven : List ℕ → Numbers → ℕ → List ℕ → Type 0
AnswerGiven answer n r after = Answered (has_room size answer) answer n r after

abbrev pub RefusalNumber : Refusal → ℕ → Type 0
RefusalNumber w r = r ≡ number w.reason

abbrev pub RefusalNumbers : Refusal → Numbers → Type 0
RefusalNumbers w r = r ≡ refusing (number w.reason) w.line w.byte

abbrev pub ValueNumbers : List ℕ → Numbers → Type 0
ValueNumbers values r = r ≡ accepting values

abbrev pub CountNumbers : Result ℕ Refusal → Numbers → Type 0
CountNumbers read r = r ≡ in_numbers count_numbers (result_told read)

abbrev pub TimeNumbers : Result ℕ Refusal → Numbers → Type 0
TimeNumbers read r = r ≡ in_numbers time_numbers (result_told read)

abbrev pub PresenceNumbers : Result Presence Refusal → Numbers → Type 0
PresenceNumbers read r = r ≡ in_numbers presence_numbers (result_told read)

abbrev pub BytesBetween : ℕ → ℕ → ℕ → Type 0
BytesBetween from to r = r ≡ to - from
