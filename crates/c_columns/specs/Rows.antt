-- A row of the table of listed codes: what is said of it by its number, its values in an answer, and the promise of the call.
use Rattle.std.specs.Prelude.{ℕ, suc, ◌/◌, ◌%◌, Bool, cond, List, [], ◌∷◌, leb, length, get_or}
use Rattle.rules.specs.Choice.{need}
use Rattle.rules.specs.Listed.{listed, unlisted}
use Rattle.rules.specs.Refusals.{Said, says, no}
use Rattle.rules.specs.declared.Listed.{Listed}
use Rattle.rules.specs.declared.Reason.TheVariants.{BadValue}
use Rattle.c_answers.specs.Answers.{in_numbers, AnswerGiven}

-- the row with a number, counted from 0; 17 past the last row
unfoldable pub listed_said : ℕ → Said Listed
listed_said n = need (leb (suc n) (length listed)) (no BadValue 0) λ _. says (get_or listed n unlisted)

-- a mark as a number
abbrev pub one_if : Bool → ℕ
one_if b = cond b 1 0

-- the three characters of the code, the least and the most width of its column, and whether a minus may stand first
abbrev pub row_numbers : Listed → List ℕ
row_numbers r = (r.code / 65536) ∷ (r.code / 256 % 256) ∷ (r.code % 256) ∷ r.least ∷ r.most ∷ one_if r.sign ∷ []

abbrev pub ListedAnswered : ℕ → List ℕ → ℕ → List ℕ → Type 0
ListedAnswered n answer r after = AnswerGiven answer (in_numbers row_numbers (listed_said n)) r after
