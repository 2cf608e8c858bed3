-- The values of an answer on an H line, and the promise of the call.
use Rattle.std.specs.Prelude.{ℕ, List, [], ◌∷◌}
use Rattle.line_read.specs.Headers.{header_said}
use Rattle.line_read.specs.declared.headers.HeaderLine.{HeaderLine}
use Rattle.c_answers.specs.Answers.{in_numbers, AnswerGiven}

-- its source, the three characters of its code, where its text starts and how long it is
abbrev pub header_numbers : HeaderLine → List ℕ
header_numbers h = h.source ∷ h.first ∷ h.second ∷ h.third ∷ h.text ∷ h.length ∷ []

abbrev pub HeaderAnswered : List ℕ → List ℕ → ℕ → List ℕ → Type 0
HeaderAnswered line answer r after = AnswerGiven answer (in_numbers header_numbers (header_said line)) r after
