-- The values of an answer on where a line stands, and the promise of each call: an equation on the number returned and on the answer afterwards.
use Rattle.std.specs.Prelude.{ℕ, ◌-◌, List, [], ◌∷◌, None, Option, Some}
use Rattle.rules.specs.declared.Bounds.{Bounds}
use Rattle.rules.specs.Split.{Stepped, bounds_of, step_at}
use Rattle.c_answers.specs.Answers.{in_numbers, AnswerGiven}

-- a line's start and length
abbrev pub bounds_numbers : Bounds → List ℕ
bounds_numbers b = b.from ∷ (b.to - b.from) ∷ []

-- a line's start and length, the place, and 1 for found; where none is left, the place alone
abbrev pub found_numbers : Option Bounds → ℕ → List ℕ
found_numbers (Some b) next = b.from ∷ (b.to - b.from) ∷ next ∷ 1 ∷ []
found_numbers None next = 0 ∷ 0 ∷ next ∷ []

abbrev pub step_numbers : Stepped → List ℕ
step_numbers s = found_numbers s.found s.next

-- "A line is asked for with the file, the table and a line number"
abbrev pub LineAnswered : List ℕ → List ℕ → ℕ → List ℕ → ℕ → List ℕ → Type 0
LineAnswered file table n answer r after = AnswerGiven answer (in_numbers bounds_numbers (bounds_of file table n)) r after

-- "A reading place over the lines .. comes back at each step with the next line, or with the news that none is left"
abbrev pub StepAnswered : List ℕ → ℕ → List ℕ → ℕ → List ℕ → Type 0
StepAnswered file place answer r after = AnswerGiven answer (in_numbers step_numbers (step_at file place)) r after
