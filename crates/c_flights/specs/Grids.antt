-- The values of an answer on the columns of a file, and the promise of the call: equations on the number returned, on the answer and on the list of numbers afterwards.
use Rattle.std.specs.Prelude.{ℕ, List, [], ◌∷◌, ℤ, length}
use Rattle.columns.specs.Columns.{columns_said, columns_after}
use Rattle.c_answers.specs.Answers.{size, in_numbers, has_room, AnsweredBeside}

-- how many lines of the family there are
abbrev pub lines_numbers : ℕ → List ℕ
lines_numbers n = n ∷ []

-- the number returned, the answer and the list; an answer of another length leaves both as they were
abbrev pub ColumnsAnswered : List ℕ → ℕ → List ℕ → List ℤ → List ℕ → ℕ → List ℤ → List ℕ → Type 0
ColumnsAnswered file letter codes list answer r list_now answer_now =
    AnsweredBeside (has_room size answer) answer (in_numbers lines_numbers (columns_said file letter codes (length list))) list (columns_after file letter codes list) r answer_now list_now
