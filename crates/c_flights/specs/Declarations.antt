-- The values of an answer on a file's declaration, and the promise of the call: equations on the number returned, on the answer and on the list of numbers afterwards.
use Rattle.std.specs.Prelude.{ℕ, List, [], ◌∷◌, ◌++◌, length}
use Rattle.declaration.specs.Declaration.{declaration_said, points_after}
use Rattle.declaration.specs.declared.Declared.{Declared}
use Rattle.c_answers.specs.Answers.{size, in_numbers, has_room, AnsweredBeside}
use Rattle.c_lines.specs.Values.{head_numbers}

-- the values of its head, as the call on a head's line has them; then how many points, the number of the head's line, and where the head's text starts and how long it is
abbrev pub declared_numbers : Declared → List ℕ
declared_numbers d = head_numbers d.head ++ (d.points ∷ d.line ∷ d.text ∷ d.length ∷ [])

-- the number returned, the answer and the list; an answer of another length leaves both as they were
abbrev pub DeclarationAnswered : List ℕ → List ℕ → List ℕ → ℕ → List ℕ → List ℕ → Type 0
DeclarationAnswered file list answer r list_now answer_now =
    AnsweredBeside (has_room size answer) answer (in_numbers declared_numbers (declaration_said file (length list))) list (points_after file list) r answer_now list_now
