-- Lines of known sizes, one after the other, and the numbers of their columns by places: what the inner functions of this crate require and ensure.
use Rattle.std.specs.Prelude.{ℕ, ◌+◌, ◌-◌, ◌≤◌, true, cond, List, [], ◌++◌, ◌≡◌, eqb, leb, ℤ, length, get_or, drop, None}
use Rattle.rules.specs.Choice.{given}
use Rattle.rules.specs.Families.{line_letter, layout_of, family_of}
use Rattle.rules.specs.Files.{verdict}
use Rattle.rules.specs.Layouts.{line_length}
use Rattle.rules.specs.Refusals.{says}
use Rattle.rules.specs.Split.{Lines, end, broken, line, lines_of}
use Rattle.rules.specs.declared.Extra.TheVariants as extra
use Rattle.rules.specs.declared.Family.{Family}
use Rattle.rules.specs.declared.Family.TheVariants as family
use Rattle.rules.specs.declared.Flight.{Flight}
use Rattle.rules.specs.declared.Layouts.{Layouts}
use Rattle.file_lines.specs.Ends.{ended_at}
use Rattle.file_lines.specs.declared.scan.Ended.{Ended}
use Rattle.file_lines.specs.declared.scan.Ended.TheVariants as ended
use Rattle.columns_asked.specs.Asks.{names_of, are_carried, places_of, spotted}
use Rattle.columns_row.specs.Cells.{row_of}
use Rattle.columns.specs.declared.Sizes.{Sizes}
use Rattle.columns.specs.Columns.{columns_seal}

-- how many bytes the lines of each family have
abbrev pub sizes_of : Layouts → Sizes
sizes_of ls = record { b = line_length 36 ls.b; k = line_length 8 ls.k; n = line_length 8 ls.n }

abbrev pub size_in : Family → Sizes → ℕ
size_in family.B s = s.b
size_in (family.Extra extra.K) s = s.k
size_in (family.Extra extra.N) s = s.n

abbrev pub SizesGiven : Layouts → Sizes → Type 0
SizesGiven layouts r = r ≡ sizes_of layouts

-- where a line of so many bytes ends; at the end of the bytes where there are fewer
unfoldable pub by_size : ℕ → ℕ → ℕ → ℕ
by_size long at size = cond (leb size (long - at)) (at + size) long

-- where the text of a line ends, with its CR LF behind it or without
abbrev pub text_end : Ended → ℕ
text_end (ended.At e) = e
text_end (ended.Broken e) = e

-- where the line at a place ends: a line of a family by the size that its lines have, any other where its text ends; no line stands at the file's end
unfoldable pub end_by : List ℕ → ℕ → Sizes → ℕ
end_by file at s = cond (leb (length file) at) at (given (family_of (get_or file at 0)) (text_end (ended_at at (lines_of (drop at file)))) λ g. by_size (length file) at (size_in g s))

abbrev pub EndBySizes : List ℕ → ℕ → Sizes → ℕ → Type 0
EndBySizes file at s r = r ≡ end_by file at s

-- every line is ended, and those of each family have its size
abbrev pub Sized : Sizes → Lines → Type 0
Sized s end = Unit {0}
Sized s (broken n) = ⊥
Sized s (line t ls) = ((g : Family) → get_or t 0 0 ≡ line_letter g → length t ≡ size_in g s) × Sized s ls

-- the numbers of the lines with a letter, by the places of their columns
unfoldable pub rows_by : ℕ → List ℕ → Lines → List ℤ
rows_by letter places end = []
rows_by letter places (broken n) = []
rows_by letter places (line t ls) = cond (eqb (get_or t 0 0) letter) (row_of t places ++ rows_by letter places ls) (rows_by letter places ls)

-- the file is accepted, and these are the spots of the columns that are asked for
pub record Found (file : List ℕ) (f : Flight) (g : Family) (codes at : List ℕ) : Type 0 where
  pub accepted : verdict columns_seal file None ≡ says f
  pub few : length codes ≤ 39
  pub carried : are_carried (layout_of g f.layouts) (names_of codes) ≡ true
  pub spots : at ≡ spotted (places_of (layout_of g f.layouts) (names_of codes))
