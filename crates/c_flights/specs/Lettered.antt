-- The values of an answer on the kinds of a file's lines, and the promise of the call: equations on the number returned, on the answer and on the list of bytes afterwards.
use Rattle.std.specs.Prelude.{ℕ, List, [], ◌∷◌, length}
use Rattle.kinds.specs.Kinds.{kinds_said, kinds_after}
use Rattle.c_answers.specs.Answers.{size, in_numbers, has_room, AnsweredBeside}

-- how many lines there are
abbrev pub all_numbers : ℕ → List ℕ
all_numbers n = n ∷ []

-- the number returned, the answer and the list; an answer of another length leaves both as they were
abbrev pub KindsAnswered : List ℕ → List ℕ → List ℕ → ℕ → List ℕ → List ℕ → Type 0
KindsAnswered file list answer r list_now answer_now =
    AnsweredBeside (has_room size answer) answer (in_numbers all_numbers (kinds_said file (length list))) list (kinds_after file list) r answer_now list_now
