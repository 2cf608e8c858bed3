-- Demand 2, what is claimed. Each claim is a line from the room that proves it; its words stand in specs/ (Grammar, Coming, Checks, Faults, Signed, FieldTexts, Readings,
-- BothWays, Endings, ReadersRefuse, Looking) and in the specs/ of grammar_words, the definitions that it is about in the rules. Assumes nothing.
--
-- How these definitions are the library's answers: `check_file::check` answers `verdict seal file (some (length table))` and leaves `table_after seal file table` (promise FileChecked),
-- `check_file::check_untabled` answers `verdict seal file none` (FileJudged); `file_lines::bounds` answers `bounds_of` (LineGiven), `Cursor::step` answers `step_at` (LineStepped), the readers
-- in `line_read` answer `reading` (FixGiven, ExtraGiven) and so on, the look in `layout_look` answers `look_said` (LookGiven ..), `field_degrees::degrees` answers `degrees_of` (DegreesGiven); the writers in `write_line` keep `Written` (FixWritten ..),
-- from which `BothWays` tells what they write (proofs/Promised). By the laws `only_..` of crate rules_only, nothing else would keep these promises.
use Rattle.std.specs.Prelude.{None, Option, Some}
use Prim.Native.Nat.{ℕ, ◌+◌, ◌*◌, ◌≤◌}
use Prim.Native.Char.{code}
use mathlib.Core.Bool.{Bool, true, false}
use mathlib.Core.List.{List, [], ◌∷◌, ◌++◌}
use mathlib.Core.Logic.{◌⊎◌, ◌↔◌}
use mathlib.Core.Path.{◌≡◌, refl, sym, ◌∙◌, ap}
use lib.ListN.{length, get_or}
use Rattle.rules.specs.Choice.{byte, Each}
use Rattle.rules.specs.Families.{first_start, layout_of, count_of, with_layout}
use Rattle.rules.specs.Refusals.{says, refuses}
use Rattle.rules.specs.Files.{verdict}
use Rattle.rules.specs.Chars.{is_valid, is_code}
use Rattle.rules.specs.Listed.{code_text, width_fits, keeps_limit}
use Rattle.rules.specs.Fields.{latitude_at, longitude_at}
use Rattle.rules.specs.Degrees.{degrees_of}
use Rattle.rules.specs.Layouts.{is_said, allowed}
use Rattle.rules.specs.declared.Bounds.{Bounds}
use Rattle.rules.specs.Split.{Stepped, bounds_of, step_at}
use Rattle.rules.specs.Reads.{ValueOf, said_of, Reading, reading, fix_said, extra_said, date_said, event_said, satellites_said, head_said, point_said, layout_said}
use Rattle.rules.specs.Writes.{fix_text, extra_text, head_text, point_text, layout_text, is_fix, is_extra, is_head, is_point}
use Rattle.rules.specs.declared.Date.{Date}
use Rattle.rules.specs.declared.Layout.{Layout}
use Rattle.rules.specs.declared.Layouts.{Layouts}
use Rattle.rules.specs.declared.Counts.{Counts}
use Rattle.rules.specs.declared.Extra.{Extra}
use Rattle.rules.specs.declared.Extra.TheVariants as extra
use Rattle.rules.specs.declared.Family.{Family}
use Rattle.rules.specs.declared.Family.TheVariants as family
use Rattle.rules.specs.declared.Fix.{Fix}
use Rattle.rules.specs.declared.Head.{Head}
use Rattle.rules.specs.declared.Point.{Point}
use Rattle.rules.specs.declared.AtLimit.{AtLimit}
use Rattle.rules.specs.declared.Position.{Position}
use Rattle.rules.specs.declared.FinePosition.{FinePosition}
use Rattle.rules.specs.declared.Degrees.{Degrees}
use Rattle.rules.specs.declared.Flight.{Flight}
use Rattle.rules.specs.declared.Seal.{Seal}
use Rattle.rules.specs.declared.Seal.TheVariants as seal
use Rattle.rules.proofs.Damaged.{five_lines}
use Rattle.rules.proofs.SignedFiles.{four_lines}
use Rattle.rules_laws.proofs.Counted.{tabled}
use Rattle.rules_laws.proofs.Counted as counted
use Rattle.rules.specs.Limits.{is_date, good_fix, good_extra, good_head, good_point}
use Rattle.rules_trips.proofs.Fixes.{fix_trip, fix_good}
use Rattle.rules_trips.proofs.Extras.{extra_trip, extra_good}
use Rattle.rules_trips.proofs.Heads.{head_trip, head_good}
use Rattle.rules_trips.proofs.Points.{point_trip, point_good}
use Rattle.grammar_words.specs.Characters.{IsValid, IsCode}
use Rattle.grammar_words.specs.Codes.{RowSays, Holds}
use Rattle.grammar_words.proofs.Characters.{valid_exactly, code_exactly}
use Rattle.grammar_words.specs.Finer.{OnlyZeros, Zeros}
use Rattle.grammar_words.proofs.Codes.{width_exactly}
use Rattle.grammar_words.proofs.Finer.{limit_exactly}
use Rattle.grammar.specs.Grammar.{IsDay, IsDateLine, IsELine, IsFLine, IsLayoutLine, IsBLine, IsExtraLine, IsColumned, IsHeadLine, IsPointLine, lines_in, Fits, Meets, flight_of}
use Rattle.grammar.specs.Faults.{PassAfter, Refused}
use Rattle.grammar.specs.Signed.{HasGLine}
use Rattle.grammar.specs.FieldTexts.{FieldsTold}
use Rattle.grammar.specs.Coming.{Meant}
use Rattle.grammar.specs.Readings.{IsName, ReadsColumns, OnMap, Readable}
use Rattle.grammar.specs.ReadersRefuse.{ReadersRefuse, NamesMeant}
use Rattle.grammar.specs.Looking.{LooksExactly}
use Rattle.grammar.specs.Endings.{EndingsMeant, IsNumbered, IsStep}
use Rattle.grammar.specs.BothWays.{Slotted, ReadsAs, BothWays}
use Rattle.grammar.proofs.Leading.{fits_there, fits_so}
use Rattle.grammar.proofs.Accepted as acceptance
use Rattle.grammar.proofs.Refusing as refusing
use Rattle.grammar.proofs.Signed as signed
use Rattle.grammar.proofs.FieldsThere as fields_there
use Rattle.grammar.proofs.Refusing.{meant}
use Rattle.grammar.proofs.Laws.{day_exactly}
use Rattle.grammar.proofs.Reading as readings
use Rattle.grammar.proofs.LayoutLines.{layout_exactly, layout_line_exactly}
use Rattle.grammar.proofs.EachLine.{reading_here, reading_there, head_reads, head_read, point_reads, point_read}
use Rattle.grammar.specs.Checks.{limits_in}
use Rattle.grammar.proofs.Faulty.{at_most}
use Rattle.grammar.proofs.Readers.{date_exactly, event_exactly, satellite_exactly, map_exactly, some_line}
use Rattle.grammar.proofs.Writers.{both_ways, trip_ways}
use Rattle.grammar.proofs.Endings as endings
use Rattle.grammar.proofs.ReadersRefuse as readers
use Rattle.grammar.proofs.Looking as looks
use Rattle.grammar.proofs.Worked as worked

-- ---- the verdict on a file by each check, the usual one and the strict one (`seal`), with a table of `room` entries or without one

module _ (seal : Seal) (file : List ℕ) (room : Option ℕ) where
  -- a file is accepted exactly when it meets the grammar and its lines fit the table
  pub accepted_exactly : (is_said (verdict seal file room) ≡ true) ↔ ((m : Meets seal file) × Fits room (length (lines_in m.parts)))
  accepted_exactly =
      let a = acceptance.accepted_exactly seal file room in
      (λ e. let r = a.0 e in (r.0, fits_there room _ r.1), λ r. a.1 (r.0, fits_so room _ r.1))

  -- and then the date, the layouts and the counts of the answer are the grammar's, and so is whether it is signed
  pub accepted_as : (f : Flight) → (verdict seal file room ≡ says f) ↔ ((m : Meets seal file) × Fits room (length (lines_in m.parts)) × (flight_of m ≡ f))
  accepted_as f =
      let a = acceptance.accepted_as seal file room f in
      (λ e. let r = a.0 e in (r.0, fits_there room _ r.1, r.2), λ r. a.1 (r.0, fits_so room _ r.1, r.2))

  -- it is refused with a number, line and byte exactly when that refusal's meaning holds of it
  pub refused_first : (number line byte : ℕ) → (verdict seal file room ≡ refuses number line byte) ↔ Refused seal file room number line byte
  refused_first number line byte = refusing.refused_first seal file room number line byte

  -- "'signed' is yes exactly when a G line exists"
  pub signed_exactly : (f : Flight) → verdict seal file room ≡ says f → (f.signed ≡ true) ↔ HasGLine file
  signed_exactly f e = signed.signed_exactly seal file room f e

-- the strict check says of a file what the usual one says, where that is that it is signed; it refuses what the usual one refuses, and besides, with 16 behind the last line, a file
-- that is not signed
module _ (file : List ℕ) (room : Option ℕ) where
  pub strict_is_usual_and_signed : (f : Flight) → (verdict seal.Strict file room ≡ says f) ↔ ((verdict seal.Usual file room ≡ says f) × (f.signed ≡ true))
  strict_is_usual_and_signed = signed.strict_accepts file room

  pub strict_refuses_besides : (number line byte : ℕ) → (verdict seal.Strict file room ≡ refuses number line byte)
      ↔ ((verdict seal.Usual file room ≡ refuses number line byte)
      ⊎ ((f : Flight) × (verdict seal.Usual file room ≡ says f) × (f.signed ≡ false) × (number ≡ 16) × (line ≡ f.lines + 1) × (byte ≡ 0)))
  strict_refuses_besides = signed.strict_refuses file room

-- with a table only 15 is added
pub table_adds : (seal : Seal) (file : List ℕ) (entries : ℕ) → verdict seal file (Some entries) ≡ tabled entries (verdict seal file None)
table_adds = counted.table_adds

-- ---- what the checks of a refusal read and test, apart from how

-- the role of a line by its letter, and each field: it is read exactly where the text of a value within its limits stands
pub fields_told : FieldsTold
fields_told = fields_there.fields_told

-- of lines that pass: a declaration that is still open, the entries of the I, the J and the M line, the time before
pub lines_meant : (ls : List (List ℕ)) → PassAfter [] ls → Meant ls
lines_meant = meant

-- a character (8), a code character; a date; the width of a code's column (12), and its text (13). The table of listed codes and the limits of values stand in
-- grammar_words/proofs/Exactly
pub characters_meant : (in_h : Bool) (b : ℕ) → (is_valid in_h b ≡ true) ↔ IsValid in_h b
characters_meant = valid_exactly

pub codes_meant : (b : ℕ) → (is_code b ≡ true) ↔ IsCode b
codes_meant = code_exactly

pub dates_meant : (d : Date) → (is_date d ≡ true) ↔ IsDay d
dates_meant = day_exactly

pub widths_meant : (x w : ℕ) → (width_fits x w ≡ true) ↔ RowSays x (λ p. (p.least ≤ w) × (w ≤ p.most))
widths_meant = width_exactly

pub texts_meant : (at : AtLimit) (x : ℕ) (t : List ℕ) → (keeps_limit at x t ≡ true) ↔ (RowSays x (λ p. Holds p.name t) × (OnlyZeros (at.lat ≡ true) (at.lon ≡ true) (code_text x) → Zeros t))
texts_meant at = limit_exactly at (at.lat ≡ true) (at.lon ≡ true) (λ h. h, λ h. h) (λ h. h, λ h. h)

-- which coordinates of a B line are at their limits: 90 degrees of latitude, 180 degrees of longitude
pub limits_meant : (l : List ℕ)
    → (((limits_in family.B l).lat ≡ true) ↔ ((p : Position) × (latitude_at l (byte 8) ≡ Some p) × (p.count ≡ 90 * 60 * 1000)))
    × (((limits_in family.B l).lon ≡ true) ↔ ((p : Position) × (longitude_at l (byte 16) ≡ Some p) × (p.count ≡ 180 * 60 * 1000)))
limits_meant l = (at_most (latitude_at l (byte 8)) 5400000, at_most (longitude_at l (byte 16)) 10800000)

-- ---- the grammar by itself

-- it says one thing of a file, over one cut of it into lines
pub said_once : (seal : Seal) (file : List ℕ) (m n : Meets seal file) → flight_of m ≡ flight_of n
said_once = acceptance.one_reading

pub cut_once : (seal : Seal) (file : List ℕ) (m n : Meets seal file) → lines_in m.parts ≡ lines_in n.parts
cut_once seal file m n = sym (readings.lines_are file m) ∙ readings.lines_are file n

-- in the answer the I layout and the count of B lines stand under b, the J layout and the count of K lines under k, the M layout and the count of N lines under n
pub answers_exactly : (layouts : Layouts) (counts : Counts)
    → ((layout_of family.B layouts ≡ layouts.b) × (count_of family.B counts ≡ counts.b))
    × ((layout_of (family.Extra extra.K) layouts ≡ layouts.k) × (count_of (family.Extra extra.K) counts ≡ counts.k))
    × ((layout_of (family.Extra extra.N) layouts ≡ layouts.n) × (count_of (family.Extra extra.N) counts ≡ counts.n))
answers_exactly layouts counts = ((refl, refl), (refl, refl), (refl, refl))

-- a layout put in its family's place is that family's, and the others' stay
pub put_exactly : (l : Layout) (ls : Layouts)
    → (with_layout family.B l ls ≡ record { b = l; k = ls.k; n = ls.n })
    × (with_layout (family.Extra extra.K) l ls ≡ record { b = ls.b; k = l; n = ls.n })
    × (with_layout (family.Extra extra.N) l ls ≡ record { b = ls.b; k = ls.k; n = l })
put_exactly l ls = (refl, refl, refl)

-- document 01's file of five lines meets it for both checks, put together by hand; the four lines before its G line for the usual one
pub five_meet : (needs : Seal) → Meets needs five_lines
five_meet = worked.five_meet

pub four_meet : Meets seal.Usual four_lines
four_meet = worked.four_meet

-- "So a B after G is refused": no file that meets it has a B line behind a G line
pub no_b_after_g : {seal : Seal} {file : List ℕ} (m : Meets seal file) (before : List (List ℕ)) (g : List ℕ) (after : List (List ℕ)) → lines_in m.parts ≡ before ++ (g ∷ after)
    → get_or g 0 0 ≡ code "G" → Each (λ l. get_or l 0 0 ≡ code "B" → ⊥) after
no_b_after_g = worked.no_b_after_g

-- ---- what can be read from an accepted file, with the table that it was checked with: its lines by number and step by step; the date from line 2, the layouts from the I, the J and
-- the M line, and of them the lengths, columns and listed codes; each B, K and N line column by column, each E and F line; and the declaration with its texts

pub readable : (seal : Seal) (file table : List ℕ) (f : Flight) → verdict seal file (Some (length table)) ≡ says f → Readable seal file table f
readable = readings.readable

-- ---- a reader says a value of a line exactly when the line is, by the grammar, a line of that value

-- B lines, K lines and N lines, by a layout that is allowed
module _ (i : Slotted) (l : List ℕ) where
  pub fixes_exactly : allowed 36 i.layout ≡ true → (r : Reading Fix) → (reading family.B l i.layout ≡ says r) ↔ (IsBLine i.layout r.value l × (r.entries ≡ i.layout))
  fixes_exactly g = readings.fixes_read i.layout l (record { right = g; full = i.slots })

  pub extras_exactly : (x : Extra) → allowed 8 i.layout ≡ true → (r : Reading ℕ) → (reading (family.Extra x) l i.layout ≡ says r) ↔ (IsExtraLine x i.layout r.value l × (r.entries ≡ i.layout))
  extras_exactly x g = readings.extras_read x i.layout l (record { right = g; full = i.slots })

  -- the value alone, which the writers are held against, is that of the whole reading
  pub values_exactly : (f : Family) (v : ValueOf f) → (said_of f l i.layout ≡ says v) ↔ (reading f l i.layout ≡ says (record { value = v; entries = i.layout }))
  values_exactly f v = (reading_here f l i.layout v, λ e. (reading_there f l i.layout _ e).0)

-- and the columns of such a line, by the look into the entries: the text and the number of each code that the layout carries, 19 for every other code
pub columns_exactly : (family : Family) (i : Slotted) → allowed (first_start family) i.layout ≡ true → (t : ℕ) (l : List ℕ) → IsColumned family i.layout t l → ReadsColumns family i.layout l
columns_exactly family i g t l w = readings.line_columns family i.layout t l (record { right = g; full = i.slots }) w

-- the look, whatever line and entries it is given: 17 exactly of a bad answer, else 19 exactly where no entry has the code, else the place and the text of the entry that has
-- it; and as a number 20 exactly where that text spells none, else the number that it spells
pub looks_exactly : (l : List ℕ) (es : Layout) (name : List ℕ) → IsName name → LooksExactly l es name
looks_exactly = looks.looks_exactly

-- I lines, J lines and M lines
pub layouts_exactly : (family : Family) (layout : Layout) (l : List ℕ) → (layout_said family l ≡ says layout) ↔ IsLayoutLine family layout l
layouts_exactly = layout_line_exactly

-- a layout is allowed exactly when there is such a line of it
pub allowed_exactly : (family : Family) (i : Slotted) → (allowed (first_start family) i.layout ≡ true) ↔ ((l : List ℕ) × IsLayoutLine family i.layout l)
allowed_exactly = some_line

-- line 2, E lines and F lines
pub dates_exactly : (d : Date) (l : List ℕ) → (date_said l ≡ says d) ↔ IsDateLine d l
dates_exactly = date_exactly

pub events_exactly : (t : ℕ) (l : List ℕ) → (event_said l ≡ says t) ↔ IsELine t l
events_exactly = event_exactly

pub satellites_exactly : (t : ℕ) (l : List ℕ) → (satellites_said l ≡ says t) ↔ IsFLine t l
satellites_exactly = satellite_exactly

-- C heads and C points
pub heads_exactly : (h : Head) (l : List ℕ) → (head_said l ≡ says h) ↔ IsHeadLine h l
heads_exactly h l = (head_read h l, head_reads h l)

pub points_exactly : (p : Point) (l : List ℕ) → (point_said l ≡ says p) ↔ ((w : IsPointLine l) × (w.point ≡ p))
points_exactly p l = (point_read p l, λ w. point_reads l w.0 ∙ ap says w.1)

-- a line by its number, with any file and table, and a step from any place: the line that stands there
pub numbered_exactly : (file table : List ℕ) (n : ℕ) (b : Bounds) → (bounds_of file table n ≡ says b) ↔ IsNumbered file table n b
numbered_exactly = endings.numbered_exactly

pub steps_exactly : (file : List ℕ) (at : ℕ) (s : Stepped) → (step_at file at ≡ says s) ↔ IsStep file at s
steps_exactly = endings.step_exactly

-- two positions on the map
pub degrees_exactly : (lat lon : FinePosition) (d : Degrees) → (degrees_of lat lon ≡ says d) ↔ OnMap lat lon d
degrees_exactly = map_exactly

-- ---- lines read and written: of each kind `read_then_write`, `write_then_read` and `bad_value_exactly` (specs/BothWays); 35, 7, 25 and 18 bytes stand before the columns or
-- the text

pub fixes_both_ways : (layout : Layout)
    → BothWays (ReadsAs (λ l. fix_said l layout) 35) (λ v. fix_text v.0 v.1) (λ v. is_fix v.0 v.1 layout) (λ v. good_fix v.0 v.1 layout)
fixes_both_ways layout = trip_ways (λ f tail. is_fix f tail layout) (fix_trip layout) (λ f tail. fix_good f tail layout)

pub extras_both_ways : (x : Extra) (layout : Layout)
    → BothWays (ReadsAs (λ l. extra_said x l layout) 7) (λ v. extra_text x v.0 v.1) (λ v. is_extra x v.0 v.1 layout) (λ v. good_extra v.0 v.1 layout)
extras_both_ways x layout = trip_ways (λ t tail. is_extra x t tail layout) (extra_trip x layout) (λ t tail. extra_good x t tail layout)

pub heads_both_ways : BothWays (ReadsAs head_said 25) (λ v. head_text v.0 v.1) (λ v. is_head v.0 v.1) (λ v. good_head v.0 v.1)
heads_both_ways = trip_ways is_head head_trip head_good

pub points_both_ways : BothWays (ReadsAs point_said 18) (λ v. point_text v.0 v.1) (λ v. is_point v.0 v.1) (λ v. good_point v.0 v.1)
points_both_ways = trip_ways is_point point_trip point_good

-- I lines, J lines and M lines: of a layout nothing stands behind
pub layouts_both_ways : (family : Family)
    → BothWays (λ l (v : Slotted). layout_said family l ≡ says v.layout) (λ v. layout_text family v.layout) (λ v. allowed (first_start family) v.layout) (λ v. allowed (first_start family) v.layout)
layouts_both_ways family = both_ways _ _ _ _ (λ l v. layout_exactly family v.layout l v.slots) (λ v. refl)

-- ---- what each reader refuses first: 17, then the checks 7 to 13 of its kind of line, then 19, then 20, with 0 for the line number

pub readers_refuse_first : ReadersRefuse
readers_refuse_first = readers.readers_refuse

-- what 19 and 20 test, apart from how
pub names_meant : NamesMeant
names_meant = readers.names_meant

-- what 17 tests of a line by its number and of a reading place: where CR LF stands
pub endings_meant : EndingsMeant
endings_meant = endings.endings_meant
