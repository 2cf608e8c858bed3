-- Document 01, 'Lines': the text of the line that a refusal names.
use Rattle.std.specs.Prelude.{ℕ, zero, suc, ◌+◌, ◌-◌, ◌≤◌, cond, List, [], ◌≡◌, eqb, length, take, drop}
use Rattle.rules.specs.Split.{Lines, end, broken, line, lines_of}

-- The text of the line behind k lines, of a file and the lines that it is cut into. A line that is broken, "first CR or LF is not CR LF, or none comes", has the text
-- before its break; where no line is left, as for "lines + 1" (16), there is no text.
unfoldable pub text_behind : ℕ → Lines → List ℕ → List ℕ
text_behind k end file = []
text_behind zero (broken n) file = take n file
text_behind (suc k) (broken n) file = []
text_behind zero (line t ls) file = t
text_behind (suc k) (line t ls) file = text_behind k ls (drop (length t + 2) file)

-- the text of line n of a file, lines counted from 1; 0 is none
unfoldable pub text_of : List ℕ → ℕ → List ℕ
text_of file n = cond (eqb n 0) [] (text_behind (n - 1) (lines_of file) file)

abbrev pub FaultyTextGiven : List ℕ → ℕ → List ℕ → Type 0
FaultyTextGiven file n r = r ≡ text_of file n

-- ---- where the line starts and where its text ends

-- the line from r on is the one behind k lines; r is the file's end where there is none
pub record LineStartGiven (file : List ℕ) (k r : ℕ) : Type 0 where
  pub within : r ≤ length file
  pub same : text_behind k (lines_of file) file ≡ text_behind 0 (lines_of (drop r file)) (drop r file)

-- the text of the line from `at` on ends at r
pub record TextEndGiven (file : List ℕ) (at r : ℕ) : Type 0 where
  pub start : at ≤ r
  pub within : r ≤ length file
  pub text : take (r - at) (drop at file) ≡ text_behind 0 (lines_of (drop at file)) (drop at file)
