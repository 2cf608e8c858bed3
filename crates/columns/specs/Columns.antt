-- The numbers of some columns of a whole file, row by row: what is said of them, the list afterwards, and the promise.
use Rattle.rules.specs.declared.Refusal.{Refusal}
use Rattle.std.specs.Prelude.{ℕ, ◌*◌, ◌/◌, cond, List, [], ◌∷◌, ◌++◌, ◌≡◌, eqb, leb, ℤ, length, get_or, drop, None, Result}
use Rattle.rules.specs.Choice.{given, need}
use Rattle.rules.specs.Families.{line_letter, layout_of, count_of, family_of}
use Rattle.rules.specs.Files.{verdict}
use Rattle.rules.specs.Looks.{look_number}
use Rattle.rules.specs.Reads.{reading}
use Rattle.rules.specs.Refusals.{Said, says, refuses, no, refusal, and_then, result_told}
use Rattle.rules.specs.Split.{Lines, end, broken, line, lines_of}
use Rattle.rules.specs.declared.Family.{Family}
use Rattle.rules.specs.declared.Flight.{Flight}
use Rattle.rules.specs.declared.Layout.{Layout}
use Rattle.rules.specs.declared.Reason.TheVariants.{BadValue, NoRoom}
use Rattle.rules.specs.declared.Seal.{Seal}
use Rattle.rules.specs.declared.Seal.TheVariants as seal
use Rattle.rules.specs.declared.Signed.{Signed}
use Rattle.columns_asked.specs.Asks.{names_of, asked_said}
use Rattle.columns_row.specs.Cells.{no_number}

-- the usual check
abbrev pub columns_seal : Seal
columns_seal = seal.Usual

-- ---- the numbers

-- the number that the look for a code gives in the reading of a line
abbrev pub cell_said : Family → Layout → List ℕ → List ℕ → Said Signed
cell_said g layout l name = and_then (reading g l layout) λ r. look_number l r.entries name

-- the number; the mark where there is none
abbrev pub number_in : Said Signed → ℤ
number_in (says z) = z.value
number_in (refuses n l b) = no_number

-- the row of a line: a number for each code
unfoldable pub row_in : Family → Layout → List (List ℕ) → List ℕ → List ℤ
row_in g layout [] l = []
row_in g layout (name ∷ names) l = number_in (cell_said g layout l name) ∷ row_in g layout names l

-- the rows of the lines of a family, one behind the other
unfoldable pub rows_in : Family → Layout → List (List ℕ) → Lines → List ℤ
rows_in g layout names end = []
rows_in g layout names (broken n) = []
rows_in g layout names (line t ls) = cond (eqb (get_or t 0 0) (line_letter g)) (row_in g layout names t ++ rows_in g layout names ls) (rows_in g layout names ls)

-- ---- what is said

-- whose columns are asked for: a family of a file, its layout, and how many lines it has
pub record Grid : Type 0 where
  pub family : Family
  pub layout : Layout
  pub lines : ℕ

-- 18 where a list of `room` numbers is shorter than lines times codes
unfoldable pub grid_room : Flight → Family → List ℕ → ℕ → Said Grid
grid_room f g codes room =
    need (leb (count_of g f.counts * (length codes / 3)) room) (no NoRoom 0) λ _.
    says (record { family = g; layout = layout_of g f.layouts; lines = count_of g f.counts })

-- 17 for what are no codes, then 19 where the family's layout has no such code
unfoldable pub grid_in : Flight → Family → List ℕ → ℕ → Said Grid
grid_in f g codes room = and_then (asked_said (layout_of g f.layouts) codes) λ _. grid_room f g codes room

-- 17 where the letter is none of B, K and N
unfoldable pub grid_of : Flight → ℕ → List ℕ → ℕ → Said Grid
grid_of f letter codes room = given (family_of letter) (no BadValue 0) λ g. grid_in f g codes room

-- the file's own refusal first
unfoldable pub grid_said : List ℕ → ℕ → List ℕ → ℕ → Said Grid
grid_said file letter codes room = and_then (verdict columns_seal file None) λ f. grid_of f letter codes room

-- how many lines there are
abbrev pub lines_said : Said Grid → Said ℕ
lines_said s = and_then s λ a. says a.lines

abbrev pub columns_said : List ℕ → ℕ → List ℕ → ℕ → Said ℕ
columns_said file letter codes room = lines_said (grid_said file letter codes room)

-- the numbers that are stored; none where refused
abbrev pub numbers_in : List ℕ → List ℕ → Said Grid → List ℤ
numbers_in file codes (says a) = rows_in a.family a.layout (names_of codes) (lines_of file)
numbers_in file codes (refuses n l b) = []

-- numbers put over the front of a list; those past the last stay
abbrev pub over : List ℤ → List ℤ → List ℤ
over numbers list = numbers ++ drop (length numbers) list

abbrev pub columns_after : List ℕ → ℕ → List ℕ → List ℤ → List ℤ
columns_after file letter codes list = over (numbers_in file codes (grid_said file letter codes (length list))) list

-- ---- the promises

-- the answer, in the paper's terms

-- the answer and the list afterwards, by what is said
pub record GridTold (file codes : List ℕ) (s : Said Grid) (list : List ℤ) (r : Result ℕ Refusal) (after : List ℤ) : Type 0 where
  pub told : result_told r ≡ lines_said s
  pub numbers : after ≡ over (numbers_in file codes s) list

abbrev pub FileColumned : List ℕ → ℕ → List ℕ → List ℤ → Result ℕ Refusal → List ℤ → Type 0
FileColumned file letter codes list r after = GridTold file codes (grid_said file letter codes (length list)) list r after
