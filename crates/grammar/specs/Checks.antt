-- Document 01, 'Refusal numbers': the checks 4 to 14 of one line as a list in their order, each with its number, its byte and whether the line passes it. They are told
-- by the line and the lines before it. What it means that a field could be read is said in FieldTexts. A check that needs a value which an earlier check did not find
-- takes 0 for it.
use Rattle.rules.specs.declared.Position.{Position}
use Rattle.rules.specs.declared.Date.{Date}
use Rattle.std.specs.Prelude.{ℕ, zero, suc, ◌+◌, ◌-◌, ◌*◌, ◌%◌, Bool, true, false, not, ◌&&◌, ◌||◌, cond, List, [], ◌∷◌, ◌++◌, ◌≡◌, eqb, leb, length, get_or, drop, Option}
use Prim.Native.Char.{code}
use Rattle.rules.specs.Families.{first_start}
use Rattle.rules.specs.Choice.{given, byte, Each}
use Rattle.rules.specs.Chars.{is_valid, is_code, codes_at}
use Rattle.rules.specs.Numbers.{number_at}
use Rattle.rules.specs.Fields.{time_at, date_at, latitude_at, longitude_at, altitude_at, is_either}
use Rattle.rules.specs.Listed.{code_at, width_fits, keeps_limit}
use Rattle.rules.specs.Layouts.{span_of, column_text}
use Rattle.rules.specs.Lines.{kind_of, is_date_mark, planned_at}
use Rattle.rules.specs.Roles.{role_of}
use Rattle.rules.specs.declared.Class.{Class}
use Rattle.rules.specs.declared.Class.TheVariants as class
use Rattle.rules.specs.declared.AtLimit.{AtLimit}
use Rattle.rules.specs.declared.Entry.{Entry}
use Rattle.rules.specs.declared.Family.{Family}
use Rattle.rules.specs.declared.Family.TheVariants as family
use Rattle.rules.specs.declared.Role.{Role}
use Rattle.rules.specs.declared.Role.TheVariants as role
use Rattle.grammar.specs.Coming.{or_zero, is_open, may_come, entry_of, entries_told, size_of, last_time, is_in_time}

-- one row of the table "No. | Name | Given when | Line, byte", and whether the line passes it
pub record Check : Type 0 where
  pub number : ℕ
  pub byte : ℕ
  pub passes : Bool

-- a check by its number, its byte and its test
abbrev pub check : ℕ → ℕ → Bool → Check
check n b t = record { number = n; byte = b; passes = t }

-- "9 FORM: first field against its rule; line, field's first byte"; "A time field that breaks its rule becomes TIME, a latitude or longitude POSITION, an altitude ALTITUDE,
-- a date DATE; every other field stays 9." "22 TIME, 23 POSITION, 24 ALTITUDE, 25 DATE, all with 9's line, byte and place in the order."
abbrev pub form_number : Class → ℕ
form_number class.Time = 22
form_number class.Position = 23
form_number class.Altitude = 24
form_number class.Date = 25
form_number class.Other = 9

-- the check of a field, by its class, its first byte and its test
abbrev pub field : Class → ℕ → Bool → Check
field c b t = check (form_number c) b t

-- every check passes
abbrev pub AllPass : List Check → Type 0
AllPass cs = Each (λ c. c.passes ≡ true) cs

-- "The answer is the first refusal"; "Checks go line by line, in a line 3 to 15 in this order.": every check before passes, and this one, with its number and byte,
-- fails
pub record FailsFirst (cs : List Check) (number byte : ℕ) : Type 0 where
  pub before : List Check
  pub failed : Check
  pub after : List Check
  pub order : cs ≡ before ++ (failed ∷ after)
  pub passed : AllPass before
  pub fails : failed.passes ≡ false
  pub numbered : failed.number ≡ number
  pub placed : failed.byte ≡ byte

-- ---- parts of the lists

module _ {A : Type 0} where
  -- the field could be read
  abbrev pub is_there : Option A → Bool
  is_there o = given o false λ v. true

  -- one check for each element; `at` elements stand before the first
  unfoldable pub one_each : ℕ → (ℕ → A → ℕ) → (A → Bool) → List A → ℕ → List Check
  one_each number byte test [] at = []
  one_each number byte test (a ∷ l) at = check number (byte at a) (test a) ∷ one_each number byte test l (suc at)

-- "7 LENGTH: outside its limits; line, 0", then "8 CHARACTER: first invalid one; line, its byte"
unfoldable pub shape_checks : ℕ → ℕ → Bool → List ℕ → List Check
shape_checks least most in_h l =
    check 7 0 (leb least (length l) && leb (length l) most) ∷ one_each 8 (λ i b. i + 1) (is_valid in_h) l 0

-- "where the plain count is already at its limit" (document 02): 90 degrees of latitude, 180 degrees of longitude, in a B line; K and N lines have no coordinates
abbrev pub limits_in : Family → List ℕ → AtLimit
limits_in family.B l = record { lat = given (latitude_at l (byte 8)) false λ p. eqb p.count 5400000; lon = given (longitude_at l (byte 16)) false λ p. eqb p.count 10800000 }
limits_in (family.Extra x) l = record { lat = false; lon = false }

-- "13 COLUMN: listed column against its rule; line, column's first byte"; "13 for digits past a limit" (document 02)
unfoldable pub column_checks : AtLimit → List ℕ → List Entry → List Check
column_checks at l es = one_each 13 (λ i e. e.first) (λ e. keeps_limit at e.code (column_text l (span_of e))) es 0

-- "B, E, F and K lines run in time order."; of N: "and it joins the time order"; "14 BACK: time falls; line, 2"
abbrev pub time_check : List (List ℕ) → List ℕ → Check
time_check ls l = check 14 2 (is_in_time (last_time ls) (or_zero (time_at l (byte 2))))

-- "F: time, then pairs of code characters, perhaps none": each pair at its first byte; `at` bytes stand before the first
unfoldable pub pair_checks : ℕ → List ℕ → List Check
pair_checks at [] = []
pair_checks at (a ∷ []) = []
pair_checks at (a ∷ b ∷ l) = field class.Other (at + 1) (is_code a && is_code b) ∷ pair_checks (at + 2) l

-- one of these entries has the code
unfoldable pub has_code : List Entry → ℕ → Bool
has_code [] x = false
has_code (e ∷ es) x = eqb e.code x || has_code es x

-- "entries from the left, each by 9, 10, 11, 12"; "10 TILE: SS or FF wrong", "11 TWICE: code again", "12 WIDTH: listed code, wrong width"; "entry's first byte"
unfoldable pub entry_checks : ℕ → List ℕ → ℕ → ℕ → List Entry → List Check
entry_checks zero l at start before = []
entry_checks (suc left) l at start before =
    field class.Other (at + 1) (is_there (number_at l at 2))
    ∷ field class.Other (at + 3) (is_there (number_at l (at + 2) 2))
    ∷ field class.Other (at + 5) (is_there (code_at l (at + 4)))
    ∷ check 10 (at + 1) (eqb (entry_of l at).first start)
    ∷ check 10 (at + 1) (leb (entry_of l at).first (entry_of l at).last)
    ∷ check 11 (at + 1) (not (has_code before (entry_of l at).code))
    ∷ check 12 (at + 1) (width_fits (entry_of l at).code ((entry_of l at).last - (entry_of l at).first + 1))
    ∷ entry_checks left l (at + 7) ((entry_of l at).last + 1) (before ++ (entry_of l at ∷ []))

-- ---- "in a line 3 to 15 in this order": 7 to 14, role by role; "9 FORM: first field against its rule; line, field's first byte"

-- "I, J 3 to 99"; "In I and J, NN and the length against it come first (9, byte 2), then entries from the left"; "The length is 3 + 7 × NN. The first entry starts at
-- 36 (I) or 8 (J)"; "M is built as J is"
abbrev pub layout_checks : Family → List ℕ → List Check
layout_checks f l =
    shape_checks 3 99 false l ++ (
    field class.Other 2 (is_there (number_at l (byte 2) 2))
    ∷ field class.Other 2 (eqb (length l) (3 + 7 * or_zero (number_at l (byte 2) 2)))
    ∷ entry_checks (or_zero (number_at l (byte 2) 2)) l (byte 4) (first_start f) [])

-- "second line exactly 11"; "Line 2: H, FDTE at 2 to 5 as one field, DDMMYY at 6 to 11; a longer date line is refused (h)."
abbrev pub date_checks : List ℕ → List Check
date_checks l = shape_checks 11 11 true l ++ (field class.Other 2 (is_date_mark l) ∷ field class.Date 6 (is_there (date_at l (byte 6))) ∷ [])

-- "other H 5 to 255"; "Other H: F or O, 3 code characters, text."
abbrev pub header_checks : List ℕ → List Check
header_checks l =
    shape_checks 5 255 true l ++ (field class.Other 2 (is_either (get_or l (byte 2) 0) (code "F") (code "O")) ∷ field class.Other 3 (codes_at l (byte 3) 3) ∷ [])

-- "C head 25 to 255"; "C head: declared date, time, flight date (000000 means not given; every other value must be a date, and the declared date always), 4-digit
-- task number, 2-digit number of turn points, text."
abbrev pub head_checks : List ℕ → List Check
head_checks l =
    shape_checks 25 255 false l ++ (
    field class.Date 2 (is_there (date_at l (byte 2)))
    ∷ field class.Time 8 (is_there (time_at l (byte 8)))
    ∷ field class.Date 14 (is_there (planned_at l (byte 14)))
    ∷ field class.Other 20 (is_there (number_at l (byte 20) 4))
    ∷ field class.Other 24 (is_there (number_at l (byte 24) 2))
    ∷ [])

-- "C point 18 to 255"; "C point: latitude, longitude, text."
abbrev pub point_checks : List ℕ → List Check
point_checks l =
    shape_checks 18 255 false l ++ (field class.Position 2 (is_there (latitude_at l (byte 2))) ∷ field class.Position 10 (is_there (longitude_at l (byte 10))) ∷ [])

-- "B and K exactly what their layout gives"; of N: "exact length"
abbrev pub size_checks : Family → List Entry → List ℕ → List Check
size_checks f es l = shape_checks (size_of f es) (size_of f es) false l

-- "B: time 2 to 7; latitude DDMMmmm and N or S, 8 to 15; longitude DDDMMmmm and E or W, 16 to 24; A or V, 25; pressure altitude 26 to 30; GNSS altitude 31 to 35"
abbrev pub fix_checks : List ℕ → List Check
fix_checks l =
    field class.Time 2 (is_there (time_at l (byte 2)))
    ∷ field class.Position 8 (is_there (latitude_at l (byte 8)))
    ∷ field class.Position 16 (is_there (longitude_at l (byte 16)))
    ∷ field class.Other 25 (is_either (get_or l (byte 25) 0) (code "A") (code "V"))
    ∷ field class.Altitude 26 (is_there (altitude_at l (byte 26)))
    ∷ field class.Altitude 31 (is_there (altitude_at l (byte 31)))
    ∷ []

-- the fields of a line of a family: of a B line those of a fix; "K: time 2 to 7", of N "time at 2 to 7"
abbrev pub field_checks : Family → List ℕ → List Check
field_checks family.B l = fix_checks l
field_checks (family.Extra x) l = field class.Time 2 (is_there (time_at l (byte 2))) ∷ []

-- "B and K exactly what their layout gives"; "columns from 36", "columns from 8"; of N: "columns from 8, exact length, listed codes checked"
abbrev pub line_checks : Family → List Entry → List ℕ → List Check
line_checks f es l = size_checks f es l ++ (field_checks f l ++ column_checks (limits_in f l) l es)

-- "E 10 to 255"; "E: time, 3 code characters, text."
abbrev pub event_checks : List ℕ → List Check
event_checks l = shape_checks 10 255 false l ++ (field class.Time 2 (is_there (time_at l (byte 2))) ∷ field class.Other 8 (codes_at l (byte 8) 3) ∷ [])

-- "F 7 to 255"; "F with an odd half pair is 9 at byte 8, after its time and before its pairs."
abbrev pub satellite_checks : List ℕ → List Check
satellite_checks l =
    shape_checks 7 255 false l ++ (
    field class.Time 2 (is_there (time_at l (byte 2)))
    ∷ field class.Other 8 (eqb ((length l - 7) % 2) 0)
    ∷ pair_checks (byte 8) (drop (byte 8) l))

-- 7 to 13 of a line with a time, and then 14
abbrev pub then_time : List Check → List (List ℕ) → List ℕ → List Check
then_time cs ls l = cs ++ (time_check ls l ∷ [])

-- 7 to 14 of a line of this role that comes after the lines ls
abbrev pub role_checks : Role → List (List ℕ) → List ℕ → List Check
-- "A 7 to 255"; "A: 3 code characters for the maker, 3 for the serial, then text."
role_checks role.Opens ls l = shape_checks 7 255 false l ++ (field class.Other 2 (codes_at l (byte 2) 3) ∷ field class.Other 5 (codes_at l (byte 5) 3) ∷ [])
-- "line 2 is H, then further H lines"
role_checks role.Heads ls l = cond (eqb (length ls) 1) (date_checks l) (header_checks l)
role_checks (role.Tells f) ls l = layout_checks f l
-- by the I line before, by the J line before, or by the M line before
role_checks (role.Columned f) ls l = then_time (line_checks f (entries_told f ls) l) ls l
-- "a C head, then at once its point lines"
role_checks role.Declares ls l = cond (is_open ls) (point_checks l) (head_checks l)
role_checks role.Event ls l = then_time (event_checks l) ls l
role_checks role.Satellites ls l = then_time (satellite_checks l) ls l
-- "D 6"; "D: 1 or 2, then 4 code characters."
role_checks role.Differential ls l =
    shape_checks 6 6 false l ++ (field class.Other 2 (is_either (get_or l (byte 2) 0) (code "1") (code "2")) ∷ field class.Other 3 (codes_at l (byte 3) 4) ∷ [])
-- "G 2 to 255"; "The G code is carried and never judged."
role_checks role.Seals ls l = shape_checks 2 255 false l
-- "L 1 to 99"
role_checks role.Remark ls l = shape_checks 1 99 false l
-- "other 1 to 255"; "M to Z are 'other' and carried (h)."; "M and N are 'other' no more"
role_checks role.Other ls l = shape_checks 1 255 false l
role_checks role.NoRole ls l = []

-- "4 EMPTY_LINE: length 0; line, 1", "5 KIND: first byte not A to Z; line, 1", "6 ORDER: kind not allowed here; line, 1", and then those of its role, of a line l that
-- comes after the lines ls
unfoldable pub checks_of : List (List ℕ) → List ℕ → List Check
checks_of ls l =
    check 4 1 (leb 1 (length l))
    ∷ check 5 1 (leb (code "A") (get_or l 0 0) && leb (get_or l 0 0) (code "Z"))
    ∷ check 6 1 (may_come (role_of (kind_of (get_or l 0 0))) ls)
    ∷ role_checks (role_of (kind_of (get_or l 0 0))) ls l
