-- Document 01, 'Lines': the file cut into its lines; a line by its number; a reading place over the lines.
use Rattle.std.specs.Prelude.{ℕ, suc, ◌+◌, ◌-◌, Bool, ◌&&◌, ◌||◌, cond, List, [], ◌∷◌, eqb, leb, length, get_or, drop, None, Option, Some}
use Rattle.rules.specs.Choice.{given, need, on, part}
use Rattle.rules.specs.Refusals.{Said, says, refuses, no, refusal}
use Rattle.rules.specs.declared.Reason.TheVariants.{BadValue}
use Rattle.rules.specs.declared.Bounds.{Bounds}

-- "Every line, the last one too, ends with CR LF." A file is nothing more; or a line without its CR LF and what comes after; or it is broken:
-- "first CR or LF is not CR LF, or none comes", behind n bytes of text.
pub data Lines : Type 0 where
  end : Lines
  broken : ℕ → Lines
  line : List ℕ → Lines → Lines

-- one byte of text in front
unfoldable pub text : ℕ → Lines → Lines
text b end = broken 1
text b (broken n) = broken (suc n)
text b (line t ls) = line (b ∷ t) ls

-- the lines of a file; 13 is CR and 10 is LF
unfoldable mutual
  pub lines_of : List ℕ → Lines
  lines_of [] = end
  lines_of (b ∷ rest) = cond (eqb b 13) (after_cr rest) (cond (eqb b 10) (broken 0) (text b (lines_of rest)))

  pub after_cr : List ℕ → Lines
  after_cr [] = broken 0
  after_cr (b ∷ rest) = cond (eqb b 10) (line [] (lines_of rest)) (broken 0)

-- "the offset of its first byte", for each line; the first one's is `at`
unfoldable pub offsets : ℕ → Lines → List ℕ
offsets at end = []
offsets at (broken n) = []
offsets at (line t ls) = at ∷ offsets (at + length t + 2) ls

-- CR LF stands at the front
unfoldable pub begins_crlf : List ℕ → Bool
begins_crlf l = eqb (get_or l 0 0) 13 && eqb (get_or l 1 0) 10

-- how many bytes stand before the first CR LF; `at` stand before the list
unfoldable pub first_crlf : ℕ → List ℕ → Option ℕ
first_crlf at [] = None
first_crlf at (b ∷ l) = cond (begins_crlf (b ∷ l)) (Some at) (first_crlf (at + 1) l)

-- "just past a CR LF"
unfoldable pub is_start : List ℕ → ℕ → Bool
is_start file o = eqb o 0 || (leb 2 o && begins_crlf (drop (o - 2) file))

-- "A line is asked for with the file, the table and a line number; a number of 0 or past the table's entries, a table entry that is neither 0 nor just past a
-- CR LF, or with no CR LF from there on, is 17."
unfoldable pub bounds_of : List ℕ → List ℕ → ℕ → Said Bounds
bounds_of file table n =
    need (leb 1 n) (no BadValue 0) λ _.
    need (leb n (length table)) (no BadValue 0) λ _.
    on (get_or table (n - 1) 0) λ o.
    need (is_start file o) (no BadValue 0) λ _.
    given (first_crlf o (drop o file)) (no BadValue 0) λ e.
    says (record { from = o; to = e })

-- "any line, without its CR LF, can be asked for as a part of the lent file": its bytes, none where refused
unfoldable pub line_text : List ℕ → Said Bounds → List ℕ
line_text file (says b) = part b.from b.to file
line_text file (refuses n l b) = []

-- what a step comes back with: the next line, or none where none is left, and the place
pub record Stepped : Type 0 where
  pub found : Option Bounds
  pub next : ℕ

-- "A reading place over the lines .. comes back at each step with the next line, or with the news that none is left; a place past the end, or one with no CR LF
-- after it though bytes remain, is 17."
unfoldable pub step_at : List ℕ → ℕ → Said Stepped
step_at file at =
    need (leb at (length file)) (no BadValue 0) λ _.
    cond (eqb at (length file)) (says (record { found = None; next = at }))
    (given (first_crlf at (drop at file)) (no BadValue 0) λ e.
    says (record { found = Some (record { from = at; to = e }); next = e + 2 }))

-- the answer, in the paper's terms
