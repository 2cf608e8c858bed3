-- Document 02, 'Notes tell nothing and change nothing': the two files, and all that is read alike of them, reading by reading.
use Rattle.std.specs.Prelude.{ℕ, List, [], map, ◌≡◌, ℤ, length, get_or, Option}
use Prim.Native.Char.{code}
use Rattle.rules.specs.Families.{line_letter, layout_of, count_of}
use Rattle.rules.specs.Files.{verdict}
use Rattle.rules.specs.Layouts.{length_said, presence_said}
use Rattle.rules.specs.Reads.{reading, date_said, event_said, satellites_said, head_said, head_rest, point_said, point_rest}
use Rattle.rules.specs.Refusals.{says}
use Rattle.rules.specs.Split.{lines_of}
use Rattle.rules.specs.declared.Family.{Family}
use Rattle.rules.specs.declared.Flight.{Flight}
use Rattle.rules.specs.declared.Seal.{Seal}
use Rattle.rules_laws.proofs.Splitting.{texts_of}
use Rattle.grammar.specs.Coming.{those}
use Rattle.grammar_alike.specs.Alike.{without_l, SameColumn}
use Rattle.track_rules.specs.Track.{track_of, track_said, list_after}
use Rattle.track_rules.specs.declared.Record.{Record}
use Rattle.summary_reckon.specs.Summary.{summary_said, summary_after}

-- the lines of a file, each without its CR LF
abbrev pub its_lines : List ℕ → List (List ℕ)
its_lines file = texts_of (lines_of file)

-- "Take two files accepted by the same check whose lines other than L lines are the same in the same order.": the check says f and g of them, each with its table or with none
pub record ButForNotes (seal : Seal) (file : List ℕ) (f : Flight) (other : List ℕ) (g : Flight) : Type 0 where
  pub room : Option ℕ
  pub room' : Option ℕ
  pub accepted : verdict seal file room ≡ says f
  pub accepted_too : verdict seal other room' ≡ says g
  pub same : without_l (its_lines other) ≡ without_l (its_lines file)

-- the nth line of a file that begins with a letter, counted from 0
abbrev pub nth : ℕ → List ℕ → ℕ → List ℕ
nth letter file n = get_or (those letter (its_lines file)) n []

-- a record of a track but for its line number
abbrev pub unnumbered : Record → Record
unnumbered r = record { line = 0; day = r.day; fix = r.fix }

-- the fixes of a file with their days, in their order
abbrev pub days_and_fixes : List ℕ → Flight → List Record
days_and_fixes file f = map unnumbered (track_of file f.layouts.b)

-- "Then their date, layouts, presence word, declaration, signed answer, nth fix with its columns, nth K and N line, event and satellite line, and summary are equal."
pub record NothingChanged (file : List ℕ) (f : Flight) (other : List ℕ) (g : Flight) : Type 0 where
  -- the date, as the check says it and as line 2, the first H line, is read
  pub date : g.date ≡ f.date
  pub date_line : date_said (nth (code "H") other 0) ≡ date_said (nth (code "H") file 0)
  -- the layouts, the lengths of B, K and N lines by them, and the presence word
  pub layouts : g.layouts ≡ f.layouts
  pub lengths : (x : Family) → length_said x (layout_of x g.layouts) ≡ length_said x (layout_of x f.layouts)
  pub presence : presence_said g.layouts.b ≡ presence_said f.layouts.b
  -- the declaration: as many C lines, each with its text behind the fields; the first is read as the head, the others as its points
  pub declaration : length (those (code "C") (its_lines other)) ≡ length (those (code "C") (its_lines file))
  pub heads : (n : ℕ) → head_said (nth (code "C") other n) ≡ head_said (nth (code "C") file n)
  pub head_texts : (n : ℕ) → head_rest (nth (code "C") other n) (head_said (nth (code "C") other n)) ≡ head_rest (nth (code "C") file n) (head_said (nth (code "C") file n))
  pub points : (n : ℕ) → point_said (nth (code "C") other n) ≡ point_said (nth (code "C") file n)
  pub point_texts : (n : ℕ) → point_rest (nth (code "C") other n) (point_said (nth (code "C") other n)) ≡ point_rest (nth (code "C") file n) (point_said (nth (code "C") file n))
  -- the signed answer, and the counts of B, K and N lines
  pub signed : g.signed ≡ f.signed
  pub counts : (x : Family) → count_of x g.counts ≡ count_of x f.counts
  -- the nth fix, K line and N line, each with its entries; and every look into them: where a column stands, its text, and its number
  pub readings : (x : Family) (n : ℕ) → reading x (nth (line_letter x) other n) (layout_of x g.layouts) ≡ reading x (nth (line_letter x) file n) (layout_of x f.layouts)
  pub columns : (x : Family) (n : ℕ) (name : List ℕ) → SameColumn x name (nth (line_letter x) other n) (layout_of x g.layouts) (nth (line_letter x) file n) (layout_of x f.layouts)
  -- the nth event line, and the nth satellite line
  pub events : (n : ℕ) → event_said (nth (code "E") other n) ≡ event_said (nth (code "E") file n)
  pub satellites : (n : ℕ) → satellites_said (nth (code "F") other n) ≡ satellites_said (nth (code "F") file n)
  -- the track: what is answered for a list of `room` records, and every record of the list afterwards, but for its line number
  pub tracked : (room : ℕ) → track_said other room ≡ track_said file room
  pub track : (list : List Record) → map unnumbered (list_after other list) ≡ map unnumbered (list_after file list)
  -- the summary, made afresh, or brought up to date from one of `old` fixes: what is answered for a list of `room` numbers, and every number of the list afterwards
  pub summed : (old room : ℕ) → summary_said other old room ≡ summary_said file old room
  pub summary : (old : ℕ) (list : List ℤ) → summary_after other old list ≡ summary_after file old list
  -- the fixes with their days; what is made of them alone is equal with them
  pub days_and_fixes_lem : days_and_fixes other g ≡ days_and_fixes file f
  -- "no other reading of one accepted file may": the lines of every other kind are the same in the same order
  pub kinds : (letter : ℕ) → (letter ≡ code "L" → ⊥) → those letter (its_lines other) ≡ those letter (its_lines file)
