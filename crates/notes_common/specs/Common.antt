-- The part of a file up to the end of its last G line, counted and compared, and the notes behind it, counted.
use Rattle.std.specs.Prelude.{ℕ, cond, List, ◌≡◌, length, None, Option, Some}
use Rattle.rules.specs.Split.{lines_of}
use Rattle.notes_rules.specs.Notes.{common_part, notes_in, is_same}

-- how many bytes it has
abbrev pub CommonCounted : List ℕ → ℕ → Type 0
CommonCounted file r = r ≡ length (common_part (lines_of file))

-- how many, where two files have it alike
abbrev pub CommonFound : List ℕ → List ℕ → Option ℕ → Type 0
CommonFound first second r =
    r ≡ cond (is_same (common_part (lines_of first)) (common_part (lines_of second))) (Some (length (common_part (lines_of first)))) None

-- how many notes there are: "the L lines after it"
abbrev pub NotesCounted : List ℕ → ℕ → Type 0
NotesCounted file r = r ≡ length (notes_in (lines_of file))
