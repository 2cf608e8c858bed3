-- The values of an answer on a file's summary, and the promise of the call: equations on the number returned, on the answer and on the list of numbers afterwards.
use Rattle.std.specs.Prelude.{ℕ, List, [], ◌∷◌, ℤ, length}
use Rattle.summary_reckon.specs.Summary.{summary_said, summary_after}
use Rattle.c_answers.specs.Answers.{size, in_numbers, has_room, AnsweredBeside}

-- how many runs there are
abbrev pub runs_numbers : ℕ → List ℕ
runs_numbers n = n ∷ []

-- "Keep a summary in a lent list of i32 numbers": the number returned, the answer and the list; an answer of another length leaves both as they were
abbrev pub SummaryAnswered : List ℕ → ℕ → List ℤ → List ℕ → ℕ → List ℤ → List ℕ → Type 0
SummaryAnswered file old list answer r list_now answer_now =
    AnsweredBeside (has_room size answer) answer (in_numbers runs_numbers (summary_said file old (length list))) list (summary_after file old list) r answer_now list_now
