-- Document 01, the paragraph after the refusal table: what a reader refuses first. "A line of another kind than the reader's is 17. Line readers repeat the checks of 7 to 13
-- after 17, with 0 for the line number; then 19, then 20. A refused reading returns no value." Document 02, request 8: 19 and 20 are the look's, after its own 17. Each reader has its checks as a list in that order; those of 7 to 13 stand in
-- Checks, kind by kind.
use Rattle.std.specs.Prelude.{ℕ, ◌-◌, ◌*◌, ◌^◌, ◌≤◌, Bool, true, false, not, ◌&&◌, ◌||◌, cond, List, [], ◌∷◌, ◌++◌, ◌↔◌, ◌≡◌, eqb, leb, length, get_or, drop}
use Prim.Native.Char.{code}
use Rattle.rules.specs.Choice.{Each}
use Rattle.rules.specs.Families.{first_start, line_letter, layout_letter}
use Rattle.rules.specs.Refusals.{Said, says, refuses}
use Rattle.rules.specs.Numbers.{whole_of}
use Rattle.rules.specs.Degrees.{degrees_of}
use Rattle.rules.specs.Listed.{packed_of, code_text}
use Rattle.rules.specs.declared.Span.{Span}
use Rattle.rules.specs.Layouts.{span_of, entries_of, allowed, column_text, length_said, presence_said}
use Rattle.rules.specs.Split.{bounds_of, step_at}
use Rattle.rules.specs.Reads.{reading, event_said, satellites_said, date_said, layout_said, head_said, point_said}
use Rattle.rules.specs.Looks.{look_said, look_number}
use Rattle.rules.specs.declared.Signed.{Signed}
use Rattle.rules.specs.declared.Entry.{Entry}
use Rattle.rules.specs.declared.Layout.{Layout}
use Rattle.rules.specs.declared.Family.{Family}
use Rattle.rules.specs.declared.Family.TheVariants as family
use Rattle.rules.specs.declared.FinePosition.{FinePosition}
use Rattle.grammar.specs.Checks.{Check, check, is_there, AllPass, FailsFirst, has_code, layout_checks, date_checks, head_checks, point_checks, line_checks, event_checks, satellite_checks}
use Rattle.grammar.specs.BothWays.{Slotted}
use Rattle.grammar.specs.Endings.{is_ending, has_ending}
use Rattle.grammar.specs.Readings.{Spells, IsName}

-- a reading is refused, with a number, a line and a byte, exactly when the line is 0 and of these checks one with that number and byte fails first; it says a value exactly
-- when all of them pass
pub record RefusesFirst {A : Type 0} (cs : List Check) (answer : Said A) : Type 0 where
  pub refused : (n k b : ℕ) → (answer ≡ refuses n k b) ↔ ((k ≡ 0) × FailsFirst cs n b)
  pub said : ((v : A) × (answer ≡ says v)) ↔ AllPass cs

-- ---- 17, 19 and 20: "0, 0"

-- "A line of another kind than the reader's is 17."
abbrev pub kind_check : ℕ → List ℕ → Check
kind_check letter l = check 17 0 (eqb (get_or l 0 0) letter)

-- "17 BAD_VALUE: value, layout .. given is not allowed"; "The first entry starts at 36 (I) or 8 (J)", in an M line as in a J line
abbrev pub layout_check : Family → Layout → Check
layout_check f layout = check 17 0 (allowed (first_start f) layout)

-- "19 ABSENT: code (any 3 bytes) not in the layout"
abbrev pub name_check : Layout → List ℕ → Check
name_check layout name = check 19 0 (has_code (entries_of layout) (packed_of name))

-- the column of a code: the places of its first and last byte, 0 where no entry has the code
unfoldable pub span_in : List Entry → ℕ → Span
span_in [] x = record { first = 0; last = 0 }
span_in (e ∷ es) x = cond (eqb e.code x) (span_of e) (span_in es x)

-- "20 NOT_NUMBER: column is no such number"
abbrev pub number_check : Layout → List ℕ → List ℕ → Check
number_check layout l name = check 20 0 (is_there (whole_of (column_text l (span_in (entries_of layout) (packed_of name)))))

-- ---- the checks of each reader

-- the fix of a B line with its I layout; the time of a K line with its J layout, or of an N line with its M layout
abbrev pub columned_reader : Family → Layout → List ℕ → List Check
columned_reader f layout l = kind_check (line_letter f) l ∷ layout_check f layout ∷ line_checks f (entries_of layout) l

-- "a code twice": no entry's code comes again behind it
unfoldable pub are_once : List Entry → Bool
are_once [] = true
are_once (e ∷ es) = not (has_code es e.code) && are_once es

-- "an entry not inside the line lent with it or with its last byte before its first": each has its bytes, counted from 1, in a line of so many
unfoldable pub are_within : ℕ → List Entry → Bool
are_within n [] = true
are_within n (e ∷ es) = leb 1 e.first && leb e.first e.last && leb e.last n && are_within n es

-- the look into the answer of a reading, with any line and any entries: "17 for an answer with over 13 entries, a code twice or an entry not inside the line lent with it
-- or with its last byte before its first, then 19"
abbrev pub look_reader : List ℕ → Layout → List ℕ → List Check
look_reader l es name =
    check 17 0 (leb es.count 13)
    ∷ check 17 0 (are_once (entries_of es))
    ∷ check 17 0 (are_within (length l) (entries_of es))
    ∷ name_check es name
    ∷ []

-- "then 19, 20"
abbrev pub number_reader : List ℕ → Layout → List ℕ → List Check
number_reader l es name = look_reader l es name ++ (number_check es l name ∷ [])

-- the layout of an I line, for B lines, of a J line, for K lines, and of an M line, for N lines
abbrev pub layout_reader : Family → List ℕ → List Check
layout_reader f l = kind_check (layout_letter f) l ∷ layout_checks f l

-- ---- a line by its number, a reading place, and a pair of degrees

-- "a table entry that is neither 0 nor just past a CR LF, or with no CR LF from there on, is 17"
abbrev pub entry_reader : List ℕ → ℕ → List Check
entry_reader file o = check 17 0 (eqb o 0 || (leb 2 o && is_ending (o - 2) file)) ∷ check 17 0 (has_ending (drop o file)) ∷ []

-- "A line is asked for with the file, the table and a line number; a number of 0 or past the table's entries .. is 17"
abbrev pub numbered_reader : List ℕ → List ℕ → ℕ → List Check
numbered_reader file table n = check 17 0 (leb 1 n) ∷ check 17 0 (leb n (length table)) ∷ entry_reader file (get_or table (n - 1) 0)

-- "a place past the end, or one with no CR LF after it though bytes remain, is 17"
abbrev pub step_reader : List ℕ → ℕ → List Check
step_reader file at = check 17 0 (leb at (length file)) ∷ check 17 0 (eqb at (length file) || has_ending (drop at file)) ∷ []

-- "17 BAD_VALUE: value .. given is not allowed"; "Latitude at most 5,400,000, longitude at most 10,800,000", "N or S", "E or W"; each with up to 4 extra decimals (document 02)
abbrev pub coordinate_check : ℕ → ℕ → ℕ → FinePosition → Check
coordinate_check most a b p = check 17 0 (leb p.decimals 4 && (leb p.count (most * 10 ^ p.decimals) && (eqb p.letter a || eqb p.letter b)))

abbrev pub degrees_reader : FinePosition → FinePosition → List Check
degrees_reader lat lon = coordinate_check 5400000 (code "N") (code "S") lat ∷ coordinate_check 10800000 (code "E") (code "W") lon ∷ []

-- ---- what is claimed, reader by reader

pub record ReadersRefuse : Type 0 where
  -- B lines, K lines and N lines
  pub columned : (f : Family) (i : Slotted) (l : List ℕ) → RefusesFirst (columned_reader f i.layout l) (reading f l i.layout)
  -- a column of any line and any entries, as text and as a number
  pub look : (l : List ℕ) (es : Layout) (name : List ℕ) → RefusesFirst (look_reader l es name) (look_said l es name)
  pub number : (l : List ℕ) (es : Layout) (name : List ℕ) → RefusesFirst (number_reader l es name) (look_number l es name)
  -- I lines, J lines and M lines
  pub layout : (f : Family) (l : List ℕ) → RefusesFirst (layout_reader f l) (layout_said f l)
  -- line 2, C heads and C points, E lines and F lines
  pub date : (l : List ℕ) → RefusesFirst (kind_check (code "H") l ∷ date_checks l) (date_said l)
  pub head : (l : List ℕ) → RefusesFirst (kind_check (code "C") l ∷ head_checks l) (head_said l)
  pub point : (l : List ℕ) → RefusesFirst (kind_check (code "C") l ∷ point_checks l) (point_said l)
  pub event : (l : List ℕ) → RefusesFirst (kind_check (code "E") l ∷ event_checks l) (event_said l)
  pub satellites : (l : List ℕ) → RefusesFirst (kind_check (code "F") l ∷ satellite_checks l) (satellites_said l)
  -- what a layout alone tells: the length of its lines, the presence word
  pub long : (f : Family) (i : Layout) → RefusesFirst (layout_check f i ∷ []) (length_said f i)
  pub presence : (i : Layout) → RefusesFirst (layout_check family.B i ∷ []) (presence_said i)
  -- a line by its number, with any table; a step from any place; any two positions on the map
  pub numbered : (file table : List ℕ) (n : ℕ) → RefusesFirst (numbered_reader file table n) (bounds_of file table n)
  pub step : (file : List ℕ) (at : ℕ) → RefusesFirst (step_reader file at) (step_at file at)
  pub degrees : (lat lon : FinePosition) → RefusesFirst (degrees_reader lat lon) (degrees_of lat lon)

-- no two entries have one code
abbrev pub Once : List Entry → Type 0
Once [] = Unit {0}
Once (e ∷ es) = Each (λ x. x.code ≡ e.code → ⊥) es × Once es

-- what the look's 17, 19 and 20 test, apart from how: no code comes twice; each entry stands inside the line; a code is absent where no entry is of that name, and a column is
-- a number where its text spells one
pub record NamesMeant : Type 0 where
  pub once : (es : List Entry) → (are_once es ≡ true) ↔ Once es
  pub within : (n : ℕ) (es : List Entry) → (are_within n es ≡ true) ↔ Each (λ e. (1 ≤ e.first) × (e.first ≤ e.last) × (e.last ≤ n)) es
  pub absent : (es : List Entry) (name : List ℕ) → IsName name → (has_code es (packed_of name) ≡ false) ↔ Each (λ e. code_text e.code ≡ name → ⊥) es
  pub spelt : (t : List ℕ) → (is_there (whole_of t) ≡ true) ↔ ((z : Signed) × Spells t z)
