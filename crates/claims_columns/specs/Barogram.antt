-- What is demanded of the columns of a whole file, said over the lines of the file, in the grammar's words.
use Rattle.std.specs.Prelude.{ℕ, ◌*◌, ◌/◌, ◌<◌, true, false, cond, List, [], ◌∷◌, ◌≡◌, eqb, ℤ, length, get_or, None, Some}
use Rattle.rules.specs.Families.{line_letter, layout_of, family_of}
use Rattle.rules.specs.Looks.{look_number}
use Rattle.rules.specs.Reads.{ValueOf, reading}
use Rattle.rules.specs.Refusals.{says, refuses}
use Rattle.rules.specs.declared.Family.{Family}
use Rattle.rules.specs.declared.Layout.{Layout}
use Rattle.rules.specs.declared.Signed.{Signed}
use Rattle.grammar.specs.Faults.{Refused}
use Rattle.grammar.specs.Grammar.{Meets, lines_in, beginning}
use Rattle.columns_asked.specs.Asks.{names_of, are_codes, are_carried}
use Rattle.columns_row.specs.Cells.{no_number}
use Rattle.columns.specs.Columns.{columns_seal}

-- the lines of a family: those of the lines that the grammar finds that begin with its letter, in their order
unfoldable pub of_family : Family → List (List ℕ) → List (List ℕ)
of_family g [] = []
of_family g (l ∷ ls) = cond (eqb (get_or l 0 0) (line_letter g)) (l ∷ of_family g ls) (of_family g ls)

-- what is refused, in this order: the file's own; then 17 for the letter, then 17 for the codes, then 19, then 18, each with no line and no byte
pub data ColumnsRefused (file : List ℕ) (letter : ℕ) (codes : List ℕ) (room : ℕ) : ℕ → ℕ → ℕ → Type 0 where
  own : {n l b : ℕ} → Refused columns_seal file None n l b → ColumnsRefused file letter codes room n l b
  no_family : Meets columns_seal file → family_of letter ≡ None → ColumnsRefused file letter codes room 17 0 0
  no_codes : Meets columns_seal file → (g : Family) → family_of letter ≡ Some g → are_codes codes ≡ false → ColumnsRefused file letter codes room 17 0 0
  absent : (m : Meets columns_seal file) (g : Family) → family_of letter ≡ Some g → are_codes codes ≡ true → are_carried (layout_of g m.layouts) (names_of codes) ≡ false → ColumnsRefused file letter codes room 19 0 0
  short : (m : Meets columns_seal file) (g : Family) → family_of letter ≡ Some g → are_codes codes ≡ true → are_carried (layout_of g m.layouts) (names_of codes) ≡ true → room < beginning (line_letter g) (lines_in m.parts) * (length codes / 3) → ColumnsRefused file letter codes room 18 0 0

-- a number of the list is what the look for a code gives in the reading of a line: the number that it says, or the mark where it is refused with 20
pub data IsCell (g : Family) (layout : Layout) (l name : List ℕ) : ℤ → Type 0 where
  is_number : (v : ValueOf g) (z : Signed) → reading g l layout ≡ says (record { value = v; entries = layout }) → look_number l layout name ≡ says z → IsCell g layout l name z.value
  is_marked : (v : ValueOf g) → reading g l layout ≡ says (record { value = v; entries = layout }) → look_number l layout name ≡ refuses 20 0 0 → IsCell g layout l name no_number
