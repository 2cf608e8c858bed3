-- The promises of the two checks, and of the usual one without a table: an equation on the number returned and on all that is lent for writing, afterwards.
use Rattle.std.specs.Prelude.{ℕ, List, length, None, Some}
use Rattle.rules.specs.Files.{verdict, table_after}
use Rattle.rules.specs.declared.Seal.{Seal}
use Rattle.rules.specs.declared.Seal.TheVariants as seal
use Rattle.c_answers.specs.Answers.{size, in_numbers, has_room, AnsweredBeside, AnswerGiven}
use Rattle.c_figures.specs.Figures.{flight_numbers}

-- the check of a file, with the table of its lines' offsets
abbrev pub CheckAnswered : Seal → List ℕ → List ℕ → List ℕ → ℕ → List ℕ → List ℕ → Type 0
CheckAnswered seal file table answer r table_now answer_now =
    AnsweredBeside (has_room size answer) answer (in_numbers flight_numbers (verdict seal file (Some (length table)))) table (table_after seal file table) r answer_now table_now

-- "The usual check"; "A separate strict check"
abbrev pub UsuallyChecked : List ℕ → List ℕ → List ℕ → ℕ → List ℕ → List ℕ → Type 0
UsuallyChecked = CheckAnswered seal.Usual

abbrev pub StrictlyChecked : List ℕ → List ℕ → List ℕ → ℕ → List ℕ → List ℕ → Type 0
StrictlyChecked = CheckAnswered seal.Strict

-- the usual check where no table is lent
abbrev pub CountAnswered : List ℕ → List ℕ → ℕ → List ℕ → Type 0
CountAnswered file answer r after = AnswerGiven answer (in_numbers flight_numbers (verdict seal.Usual file None)) r after
