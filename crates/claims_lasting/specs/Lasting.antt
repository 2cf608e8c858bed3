-- The columns of two files, asked for by the same letter and the same codes into the same list: that they are the same, and that the codes are those of columns that the first file has.
use Rattle.std.specs.Prelude.{ℕ, true, List, ◌≡◌, ℤ, length, Some}
use Rattle.rules.specs.Families.{layout_of, family_of}
use Rattle.rules.specs.declared.Family.{Family}
use Rattle.rules.specs.declared.Flight.{Flight}
use Rattle.columns_asked.specs.Asks.{names_of, are_carried}
use Rattle.columns.specs.Columns.{columns_said, columns_after}

-- as many lines of the family, or the same refusal; and every number of the list afterwards
pub record SameColumns (file other : List ℕ) (letter : ℕ) (codes : List ℕ) (list : List ℤ) : Type 0 where
  pub said : columns_said other letter codes (length list) ≡ columns_said file letter codes (length list)
  pub after : columns_after other letter codes list ≡ columns_after file letter codes list

-- a file of which f is said has a column for each of the codes in the layout of the letter's family; a letter of no family asks for none
abbrev pub OldCodes : Flight → ℕ → List ℕ → Type 0
OldCodes f letter codes = (g : Family) → family_of letter ≡ Some g → are_carried (layout_of g f.layouts) (names_of codes) ≡ true
