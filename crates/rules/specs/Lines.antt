-- Document 01, 'Lines' and 'Fields': each kind of line, without its CR LF, by the checks 7 to 13 in their order, and what it says.
use Rattle.rules.specs.declared.Position.{Position}
use Rattle.std.specs.Prelude.{ℕ, ◌+◌, ◌-◌, ◌%◌, Bool, true, false, ◌&&◌, cond, List, [], ◌∷◌, eqb, leb, ltb, length, get_or, drop, None, Option, Some}
use Prim.Native.Char.{code}
use Rattle.rules.specs.Families.{first_start}
use Rattle.rules.specs.Choice.{given, need, on, byte}
use Rattle.rules.specs.Refusals.{Said, says, no, and_then, breaks}
use Rattle.rules.specs.Chars.{characters, is_code, codes_at}
use Rattle.rules.specs.Numbers.{number_at}
use Rattle.rules.specs.Fields.{time_at, date_at, latitude_at, longitude_at, most_latitude, most_longitude, altitude_at, is_either}
use Rattle.rules.specs.Listed.{off_limit}
use Rattle.rules.specs.Layouts.{layout_fields, line_length, columns}
use Rattle.rules.specs.declared.Reason.TheVariants.{Length}
use Rattle.rules.specs.declared.Date.{Date}
use Rattle.rules.specs.declared.Layout.{Layout}
use Rattle.rules.specs.declared.Family.{Family}
use Rattle.rules.specs.declared.Family.TheVariants as family
use Rattle.rules.specs.declared.AtLimit.{AtLimit}
use Rattle.rules.specs.declared.FixFields.{FixFields}
use Rattle.rules.specs.declared.Head.{Head}
use Rattle.rules.specs.declared.Point.{Point}
use Rattle.rules.specs.declared.Kind.{Kind}
use Rattle.rules.specs.declared.Kind.TheVariants as kind
use Rattle.rules.specs.declared.Class.TheVariants as class

-- "The first byte, A to Z, is the kind."; "M and N are 'other' no more": O to Z are, and carried (h)
unfoldable pub kind_of : ℕ → Kind
kind_of b =
    cond (eqb b (code "A")) kind.A
    (cond (eqb b (code "B")) kind.B
    (cond (eqb b (code "C")) kind.C
    (cond (eqb b (code "D")) kind.D
    (cond (eqb b (code "E")) kind.E
    (cond (eqb b (code "F")) kind.F
    (cond (eqb b (code "G")) kind.G
    (cond (eqb b (code "H")) kind.H
    (cond (eqb b (code "I")) kind.I
    (cond (eqb b (code "J")) kind.J
    (cond (eqb b (code "K")) kind.K
    (cond (eqb b (code "L")) kind.L
    (cond (eqb b (code "M")) kind.M
    (cond (eqb b (code "N")) kind.N
    (cond (ltb b (code "A")) kind.NoKind
    (cond (leb b (code "Z")) kind.Other kind.NoKind)))))))))))))))

-- "Lengths below leave CR LF out": from least to most bytes
unfoldable pub is_sized : ℕ → ℕ → List ℕ → Bool
is_sized least most l = leb least (length l) && leb (length l) most

-- "7 LENGTH: outside its limits; line, 0", then "8 CHARACTER"; in an H line the comma is valid
unfoldable pub shaped : ℕ → ℕ → Bool → List ℕ → Said (Unit {0})
shaped least most in_h l = need (is_sized least most l) (no Length 0) λ _. characters in_h l

-- "A 7 to 255"; "A: 3 code characters for the maker, 3 for the serial, then text."
unfoldable pub a_line : List ℕ → Said (Unit {0})
a_line l =
    and_then (shaped 7 255 false l) λ _.
    need (codes_at l (byte 2) 3) (breaks class.Other 2) λ _.
    need (codes_at l (byte 5) 3) (breaks class.Other 5) λ _.
    says tt

-- "FDTE at 2 to 5 as one field"
unfoldable pub is_date_mark : List ℕ → Bool
is_date_mark l =
    eqb (get_or l (byte 2) 0) (code "F") && eqb (get_or l (byte 3) 0) (code "D") && eqb (get_or l (byte 4) 0) (code "T") && eqb (get_or l (byte 5) 0) (code "E")

-- "second line exactly 11"; "Line 2: H, FDTE at 2 to 5 as one field, DDMMYY at 6 to 11; a longer date line is refused (h)."
unfoldable pub date_line : List ℕ → Said Date
date_line l =
    and_then (shaped 11 11 true l) λ _.
    need (is_date_mark l) (breaks class.Other 2) λ _.
    given (date_at l (byte 6)) (breaks class.Date 6) λ d.
    says d

-- "other H 5 to 255"; "Other H: F or O, 3 code characters, text."
unfoldable pub h_line : List ℕ → Said (Unit {0})
h_line l =
    and_then (shaped 5 255 true l) λ _.
    on (get_or l (byte 2) 0) λ b.
    need (is_either b (code "F") (code "O")) (breaks class.Other 2) λ _.
    need (codes_at l (byte 3) 3) (breaks class.Other 3) λ _.
    says tt

-- "I, J 3 to 99"; M as J
unfoldable pub layout_line : ℕ → List ℕ → Said Layout
layout_line start l = and_then (shaped 3 99 false l) λ _. layout_fields start l

-- "000000 means not given; every other value must be a date"
unfoldable pub planned_at : List ℕ → ℕ → Option (Option Date)
planned_at l at =
    given (number_at l at 6) None λ v.
    cond (eqb v 0) (Some None) (given (date_at l at) None λ d. Some (Some d))

-- "C head: declared date, time, flight date (000000 means not given; every other value must be a date, and the declared date always), 4-digit task number, 2-digit
-- number of turn points, text."
unfoldable pub head_fields : List ℕ → Said Head
head_fields l =
    given (date_at l (byte 2)) (breaks class.Date 2) λ d.
    given (time_at l (byte 8)) (breaks class.Time 8) λ t.
    given (planned_at l (byte 14)) (breaks class.Date 14) λ f.
    given (number_at l (byte 20) 4) (breaks class.Other 20) λ n.
    given (number_at l (byte 24) 2) (breaks class.Other 24) λ k.
    says (record { declared = d; time = t; flight = f; task = n; turns = k })

-- "C head 25 to 255"
unfoldable pub head_line : List ℕ → Said Head
head_line l = and_then (shaped 25 255 false l) λ _. head_fields l

-- "C point 18 to 255"; "C point: latitude, longitude, text."
unfoldable pub point_line : List ℕ → Said Point
point_line l =
    and_then (shaped 18 255 false l) λ _.
    given (latitude_at l (byte 2)) (breaks class.Position 2) λ lat.
    given (longitude_at l (byte 10)) (breaks class.Position 10) λ lon.
    says (record { lat = lat; lon = lon })

-- "D 6"; "D: 1 or 2, then 4 code characters."
unfoldable pub d_line : List ℕ → Said (Unit {0})
d_line l =
    and_then (shaped 6 6 false l) λ _.
    on (get_or l (byte 2) 0) λ b.
    need (is_either b (code "1") (code "2")) (breaks class.Other 2) λ _.
    need (codes_at l (byte 3) 4) (breaks class.Other 3) λ _.
    says tt

-- "E 10 to 255"; "E: time, 3 code characters, text."
unfoldable pub e_line : List ℕ → Said ℕ
e_line l =
    and_then (shaped 10 255 false l) λ _.
    given (time_at l (byte 2)) (breaks class.Time 2) λ t.
    need (codes_at l (byte 8) 3) (breaks class.Other 8) λ _.
    says t

-- how many bytes stand before the first pair that is not two code characters; `at` stand before the first pair
unfoldable pub bad_pair : ℕ → List ℕ → Option ℕ
bad_pair at [] = None
bad_pair at (a ∷ []) = None
bad_pair at (a ∷ b ∷ l) = cond (is_code a && is_code b) (bad_pair (at + 2) l) (Some at)

-- "F 7 to 255"; "F: time, then pairs of code characters, perhaps none."; "F with an odd half pair is 9 at byte 8, after its time and before its pairs."
unfoldable pub f_line : List ℕ → Said ℕ
f_line l =
    and_then (shaped 7 255 false l) λ _.
    given (time_at l (byte 2)) (breaks class.Time 2) λ t.
    need (eqb ((length l - 7) % 2) 0) (breaks class.Other 8) λ _.
    given (bad_pair (byte 8) (drop (byte 8) l)) (says t) λ at. breaks class.Other (at + 1)

-- "B: time 2 to 7; latitude DDMMmmm and N or S, 8 to 15; longitude DDDMMmmm and E or W, 16 to 24; A or V, 25; pressure altitude 26 to 30; GNSS altitude 31 to 35"
unfoldable pub fix_fields : List ℕ → Said FixFields
fix_fields l =
    given (time_at l (byte 2)) (breaks class.Time 2) λ t.
    given (latitude_at l (byte 8)) (breaks class.Position 8) λ lat.
    given (longitude_at l (byte 16)) (breaks class.Position 16) λ lon.
    on (get_or l (byte 25) 0) λ v.
    need (is_either v (code "A") (code "V")) (breaks class.Other 25) λ _.
    given (altitude_at l (byte 26)) (breaks class.Altitude 26) λ p.
    given (altitude_at l (byte 31)) (breaks class.Altitude 31) λ g.
    says (record { time = t; lat = lat; lon = lon; validity = v; pressure = p; gnss = g })

-- "B and K exactly what their layout gives"; of N: "exact length"
unfoldable pub shaped_by : ℕ → Layout → List ℕ → Said (Unit {0})
shaped_by start layout l = shaped (line_length start layout) (line_length start layout) false l

-- "Latitude at most 5,400,000, longitude at most 10,800,000.": "where the plain count is already at its limit" (document 02)
unfoldable pub at_limit : FixFields → AtLimit
at_limit f = record { lat = eqb f.lat.count most_latitude; lon = eqb f.lon.count most_longitude }

-- "columns from 36"
unfoldable pub b_line : Layout → List ℕ → Said FixFields
b_line layout l =
    and_then (shaped_by (first_start family.B) layout l) λ _.
    and_then (fix_fields l) λ f.
    and_then (columns (at_limit f) l layout) λ _.
    says f

-- "K: time 2 to 7, columns from 8."; "N is built as K is: time at 2 to 7, columns from 8, exact length, listed codes checked"; they have no coordinates
unfoldable pub extra_line : Layout → List ℕ → Said ℕ
extra_line layout l =
    and_then (shaped_by 8 layout l) λ _.
    given (time_at l (byte 2)) (breaks class.Time 2) λ t.
    and_then (columns off_limit l layout) λ _.
    says t

-- what the bytes of a line of a family before its columns spell: of a B line the fields of its fix, of a K or an N line its time
abbrev pub FieldsIn : Family → Type 0
FieldsIn family.B = FixFields
FieldsIn (family.Extra e) = ℕ

-- their time
abbrev pub time_in : (f : Family) → FieldsIn f → ℕ
time_in family.B v = v.time
time_in (family.Extra e) t = t

-- a line of a family by its layout
abbrev pub family_line : (f : Family) → Layout → List ℕ → Said (FieldsIn f)
family_line family.B = b_line
family_line (family.Extra e) = extra_line

-- the time of a line of a family, by its layout
unfoldable pub columned_line : Family → Layout → List ℕ → Said ℕ
columned_line family.B layout l = and_then (b_line layout l) λ f. says f.time
columned_line (family.Extra e) layout l = extra_line layout l

-- "L 1 to 99; G 2 to 255; other 1 to 255"
abbrev pub l_line : List ℕ → Said (Unit {0})
l_line l = shaped 1 99 false l

-- "The G code is carried and never judged."
abbrev pub g_line : List ℕ → Said (Unit {0})
g_line l = shaped 2 255 false l

abbrev pub other_line : List ℕ → Said (Unit {0})
other_line l = shaped 1 255 false l
