-- What a value must keep to, so that some line reads as it: for each field and for each line that is written, a chain of tests that code can make.
use Rattle.std.specs.Prelude.{ℕ, ◌+◌, ◌-◌, Bool, true, false, not, ◌&&◌, List, leb, eqb, ℤ, pos, negsuc, length, None, Option, Some}
use Prim.Native.Char.{code}
use Rattle.rules.specs.Choice.{given, need, on, first_of, part}
use Rattle.rules.specs.Chars.{first_invalid}
use Rattle.rules.specs.Fields.{days_of, is_either}
use Rattle.rules.specs.Degrees.{is_latitude, is_longitude}
use Rattle.rules.specs.Numbers.{number_at}
use Rattle.rules.specs.Listed.{off_limit, keeps_limit}
use Rattle.rules.specs.Layouts.{entries_of, allowed, line_length}
use Rattle.rules.specs.Lines.{at_limit}
use Rattle.rules.specs.Fixes.{finer_of, decimals_of, fields_of, extra_digits}
use Rattle.rules.specs.declared.Date.{Date}
use Rattle.rules.specs.declared.Entry.{Entry}
use Rattle.rules.specs.declared.Layout.{Layout}
use Rattle.rules.specs.declared.Height.{Height}
use Rattle.rules.specs.declared.AtLimit.{AtLimit}
use Rattle.rules.specs.declared.Reach.{Reach}
use Rattle.rules.specs.declared.Finer.{Finer}
use Rattle.rules.specs.declared.FixFields.{FixFields}
use Rattle.rules.specs.declared.Fix.{Fix}
use Rattle.rules.specs.declared.Head.{Head}
use Rattle.rules.specs.declared.Point.{Point}

-- a text with no character that is invalid outside H lines
unfoldable pub is_clean : List ℕ → Bool
is_clean l = given (first_invalid false l) true λ i. false

-- ---- fields

-- "Time: HHMMSS, 00 to 23, 00 to 59, 00 to 59, read as seconds of the day."; 235960 too, which "reads as 86,400" (document 02)
abbrev pub is_time : ℕ → Bool
is_time t = leb t 86400

-- "Years 80 to 99 are 1980 to 1999, 00 to 79 are 2000 to 2079 (h). The day must exist in that month and year."
unfoldable pub is_date : Date → Bool
is_date d =
    need (leb 1980 d.year) false λ _.
    need (leb d.year 2079) false λ _.
    need (leb 1 d.day) false λ _.
    on (days_of d.year d.month) λ days.
    need (leb d.day days) false λ _.
    true

-- "000000 means not given; every other value must be a date"
unfoldable pub is_planned : Option Date → Bool
is_planned (Some d) = is_date d
is_planned None = true

-- "Altitude in metres: five digits, or a minus and four digits that are not all zero. So -9,999 to 99,999."
abbrev pub is_metres : ℤ → Bool
is_metres (pos n) = leb n 99999
is_metres (negsuc n) = leb (n + 1) 9999

-- the altitude as the library's type has it
unfoldable pub is_altitude : Height → Bool
is_altitude h = is_metres h.metres

-- ---- lines, with the text behind their fields

-- "C point 18 to 255"
unfoldable pub good_point : Point → List ℕ → Bool
good_point p rest =
    need (is_latitude p.lat) false λ _.
    need (is_longitude p.lon) false λ _.
    need (leb (18 + length rest) 255) false λ _.
    is_clean rest

-- "C head: declared date, time, flight date .., 4-digit task number, 2-digit number of turn points"
unfoldable pub good_head_fields : Head → Bool
good_head_fields h =
    need (is_date h.declared) false λ _.
    need (is_time h.time) false λ _.
    need (is_planned h.flight) false λ _.
    need (leb h.task 9999) false λ _.
    leb h.turns 99

-- "C head 25 to 255"
unfoldable pub good_head : Head → List ℕ → Bool
good_head h rest =
    need (good_head_fields h) false λ _.
    need (leb (25 + length rest) 255) false λ _.
    is_clean rest

-- "13 COLUMN: listed column against its rule; line, column's first byte", told from the line's tail alone, which begins at the first start
unfoldable pub bad_tail : AtLimit → ℕ → List ℕ → Layout → Option ℕ
bad_tail at start tail layout =
    first_of (λ (e : Entry). not (keeps_limit at e.code (part (e.first - start) (e.last + 1 - start) tail))) (λ (k : ℕ) (e : Entry). e.first) (entries_of layout) 0

-- the columns of a B line (36) or a K or N line (8), by a layout that is allowed: "A line of that kind ends at the last FF", valid characters, and no column against its rule
unfoldable pub good_tail : AtLimit → ℕ → List ℕ → Layout → Bool
good_tail at start tail layout =
    need (allowed start layout) false λ _.
    need (eqb (start - 1 + length tail) (line_length start layout)) false λ _.
    need (is_clean tail) false λ _.
    given (bad_tail at start tail layout) true λ first. false

-- "K: time 2 to 7, columns from 8."; N as K
unfoldable pub good_extra : ℕ → List ℕ → Layout → Bool
good_extra t tail layout =
    need (is_time t) false λ _.
    good_tail off_limit 8 tail layout

-- "B: time 2 to 7; latitude DDMMmmm and N or S, 8 to 15; longitude DDDMMmmm and E or W, 16 to 24; A or V, 25; pressure altitude 26 to 30; GNSS altitude 31 to 35"
unfoldable pub good_fix_fields : FixFields → Bool
good_fix_fields f =
    need (is_time f.time) false λ _.
    need (is_latitude f.lat) false λ _.
    need (is_longitude f.lon) false λ _.
    need (is_either f.validity (code "A") (code "V")) false λ _.
    need (is_altitude f.pressure) false λ _.
    is_altitude f.gnss

-- "up to 4, 4 and 3"
unfoldable pub is_fine : Fix → Bool
is_fine f = leb f.time.decimals 3 && leb f.lat.decimals 4 && leb f.lon.decimals 4

-- the number that a column's digits spell in the tail of a B line; 0 without the column
unfoldable pub tail_digits : List ℕ → Reach → ℕ
tail_digits tail r = given (number_at (part (r.first - 36) (r.last + 1 - 36) tail) 0 (decimals_of r)) 0 λ v. v

-- "refuses one whose decimals don't match the layout's width or whose digits aren't the column's": one count
unfoldable pub is_split : ℕ → ℕ → List ℕ → Reach → Bool
is_split count decimals tail r = eqb decimals (decimals_of r) && eqb (extra_digits count decimals) (tail_digits tail r)

-- and all three
unfoldable pub are_split : Fix → List ℕ → Finer → Bool
are_split f tail fine =
    is_split f.time.count f.time.decimals tail fine.time
    && is_split f.lat.count f.lat.decimals tail fine.lat
    && is_split f.lon.count f.lon.decimals tail fine.lon

-- "columns from 36"
unfoldable pub good_fix : Fix → List ℕ → Layout → Bool
good_fix f tail layout =
    need (is_fine f) false λ _.
    need (good_fix_fields (fields_of f)) false λ _.
    need (good_tail (at_limit (fields_of f)) 36 tail layout) false λ _.
    are_split f tail (finer_of layout)
