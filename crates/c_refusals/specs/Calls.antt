-- What is put into a lent text, and the promise of each call: an equation on the number returned, the lent text and the answer afterwards.
use Rattle.rules.specs.declared.Refusal.{Refusal}
use Rattle.std.specs.Prelude.{ℕ, List, [], ◌∷◌, ◌++◌, ◌≡◌, leb, length, drop, None, Option, Result, Some}
use Rattle.rules.specs.Choice.{given, need}
use Rattle.rules.specs.Refusals.{Said, says, no, result_told}
use Rattle.rules.specs.declared.Reason.TheVariants.{BadValue, NoRoom}
use Rattle.text_refusal.specs.Table.{name}
use Rattle.text_explain.specs.Explanation.{explanation}
use Rattle.c_answers.specs.Answers.{size, in_numbers, has_room, AnsweredBeside}
use Rattle.c_refusals.specs.Reasons.{reason_numbered}

-- ---- the words

-- the name of the refusal that has a number
unfoldable pub name_of : ℕ → Option (List ℕ)
name_of n = given (reason_numbered n) None λ r. Some (name r)

-- what a person reads of the refusal of a file with a number, a line and a byte
unfoldable pub explained_of : List ℕ → ℕ → ℕ → ℕ → Option (List ℕ)
explained_of file n l b = given (reason_numbered n) None λ r. Some (explanation file (record { reason = r; line = l; byte = b }))

-- ---- put at the start of a lent text

-- "17 BAD_VALUE" for a number that no refusal has; then "18 NO_ROOM" where the lent text is shorter than the words; else how many bytes they have
unfoldable pub put_said : Option (List ℕ) → List ℕ → Said ℕ
put_said words text = given words (no BadValue 0) λ t. need (leb (length t) (length text)) (no NoRoom 0) λ _. says (length t)

-- the lent text begins with the words, and is behind them as it was; "a refused write changes no byte"
unfoldable pub text_after : Option (List ℕ) → List ℕ → List ℕ
text_after words text = given words text λ t. need (leb (length t) (length text)) text λ _. t ++ drop (length t) text

pub record WordsPut (words : Option (List ℕ)) (text : List ℕ) (r : Result ℕ Refusal) (after : List ℕ) : Type 0 where
  pub told : result_told r ≡ put_said words text
  pub bytes : after ≡ text_after words text

-- ---- the promises

abbrev pub length_numbers : ℕ → List ℕ
length_numbers n = n ∷ []

-- what is said of the words, in numbers, and the lent text afterwards; an answer of another length leaves it as it was
abbrev pub TextAnswered : Option (List ℕ) → List ℕ → List ℕ → ℕ → List ℕ → List ℕ → Type 0
TextAnswered words text answer r text_now answer_now =
    AnsweredBeside (has_room size answer) answer (in_numbers length_numbers (put_said words text)) text (text_after words text) r answer_now text_now

abbrev pub NameAnswered : ℕ → List ℕ → List ℕ → ℕ → List ℕ → List ℕ → Type 0
NameAnswered n text answer r text_now answer_now = TextAnswered (name_of n) text answer r text_now answer_now

abbrev pub ExplainAnswered : List ℕ → ℕ → ℕ → ℕ → List ℕ → List ℕ → ℕ → List ℕ → List ℕ → Type 0
ExplainAnswered file n l b text answer r text_now answer_now = TextAnswered (explained_of file n l b) text answer r text_now answer_now
