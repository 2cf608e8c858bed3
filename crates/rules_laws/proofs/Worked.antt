-- Lines and files with the answers that document 01 gives, beside its sentences: a table for each subject, computed. Assumes nothing.
use Rattle.rules.specs.declared.Date.{Date}
use Rattle.std.specs.Prelude.{None, Option, Some}
use Prim.Native.Nat.{ℕ}
use Prim.Native.Char.{code}
use Prim.Native.String.{String}
use mathlib.Core.Bool.{true}
use mathlib.Core.List.{List, [], ◌∷◌}
use mathlib.Core.Path.{◌≡◌, refl}
use lib.Count.{ones}
use lib.IntN.{ℤ, pos, negsuc, neg_ℤ}
use Rattle.rules.specs.Choice.{given, bytes}
use Rattle.rules.specs.Refusals.{Said, says, refuses, and_then}
use Rattle.rules.specs.Layouts.{empty_layout, line_length, presence_said}
use Rattle.rules.specs.Split.{bounds_of, step_at}
use Rattle.rules.specs.Reads.{fix_said, event_said, satellites_said, layout_said, head_said, point_said}
use Rattle.rules.specs.declared.Extra.TheVariants as extra
use Rattle.rules.specs.declared.Family.TheVariants as family
use Rattle.rules.proofs.Computed.{everything, file_of, agree, Example, hold}
use Rattle.rules.proofs.Damaged.{lines_in, column_in, five_lines}
use Rattle.rules.proofs.Marked.{pressure, year, b_length}

-- ---- what is asked of a line or of a file

unfoldable pub latitude_letter : List ℕ → Said ℤ
latitude_letter l = and_then (fix_said l empty_layout) λ f. says (pos f.lat.letter)

unfoldable pub longitude_letter : List ℕ → Said ℤ
longitude_letter l = and_then (fix_said l empty_layout) λ f. says (pos f.lon.letter)

-- 1 where the flight date is given, else 0
abbrev is_given : Option Date → ℕ
is_given (Some d) = 1
is_given None = 0

unfoldable pub flight : List ℕ → Said ℤ
flight l = and_then (head_said l) λ h. says (pos (is_given h.flight))

unfoldable pub k_length : List ℕ → Said ℤ
unfolding line_length
k_length l = and_then (layout_said (family.Extra extra.K) l) λ j. says (pos (line_length 8 j))

unfoldable pub word : List ℕ → Said ℤ
word l =
    and_then (layout_said family.B l) λ i.
    and_then (presence_said i) λ p.
    says (pos p.word)

unfoldable pub carried : List ℕ → Said ℤ
carried l =
    and_then (layout_said family.B l) λ i.
    and_then (presence_said i) λ p.
    says (pos p.count)

unfoldable pub event : List ℕ → Said ℤ
event l = and_then (event_said l) λ t. says (pos t)

unfoldable pub satellites : List ℕ → Said ℤ
satellites l = and_then (satellites_said l) λ t. says (pos t)

unfoldable pub point : List ℕ → Said ℤ
point l = and_then (point_said l) λ p. says (pos p.lat.count)

abbrev ask : (List ℕ → Said ℤ) → String → Said ℤ → Example
unfolding bytes
ask asked given answer = record { given = bytes given; asked = asked; answer = answer }

abbrev lines : List String → Said ℤ → Example
unfolding file_of
lines texts answer = record { given = file_of texts; asked = lines_in 16; answer = answer }

-- ---- fields

pub fields : List Example
unfolding bytes
fields =
    -- "0 S and 0 N differ."
    ask latitude_letter "B1200000000000S00000000EA0000000000" (says (pos (code "S"))) ∷
    ask latitude_letter "B1200000000000N00000000EA0000000000" (says (pos (code "N"))) ∷
    ask longitude_letter "B1200000000000N00000000WA0000000000" (says (pos (code "W"))) ∷
    ask longitude_letter "B1200000000000N00000000EA0000000000" (says (pos (code "E"))) ∷
    -- "latitude DDMMmmm and N or S": an E is none of them
    ask latitude_letter "B1200000000000E00000000EA0000000000" (refuses 23 0 8) ∷
    -- "So -9,999 to 99,999."
    ask pressure "B1200000000000N00000000EA-999900000" (says (neg_ℤ (pos 9999))) ∷
    ask pressure "B1200000000000N00000000EA9999900000" (says (pos 99999)) ∷
    -- "Years 80 to 99 are 1980 to 1999, 00 to 79 are 2000 to 2079 (h)."
    ask year "HFDTE010180" (says (pos 1980)) ∷
    ask year "HFDTE311279" (says (pos 2079)) ∷
    -- "a longer date line is refused (h)"
    ask year "HFDTE150724,01" (refuses 7 0 0) ∷
    -- "000000 means not given; every other value must be a date, and the declared date always"
    ask flight "C150724120000000000000100" (says (pos 0)) ∷
    ask flight "C150724120000150724000100" (says (pos 1)) ∷
    ask flight "C150724120000000001000100" (refuses 25 0 14) ∷
    ask flight "C000000120000000000000100" (refuses 25 0 2) ∷
    -- "F: time, then pairs of code characters, perhaps none."
    ask satellites "F120000" (says (pos 43200)) ∷
    ask satellites "F1200000102" (says (pos 43200)) ∷
    []

pub fields_hold : hold fields ≡ true
unfolding everything agree hold fields latitude_letter longitude_letter pressure year flight satellites
fields_hold = refl

-- ---- columns

pub columns : List Example
unfolding bytes
columns =
    -- "as a whole number where it is 1 to 18 digits, with or without a minus before them": a minus before noughts is 0
    ask (column_in "I013639DAE" "DAE") "B1200005130000N00015000WA0010000120-000" (says (pos 0)) ∷
    ask (column_in "I013639DAE" "DAE") "B1200005130000N00015000WA0010000120-012" (says (neg_ℤ (pos 12))) ∷
    ask (column_in "I013653XYZ" "XYZ") "B1200005130000N00015000WA0010000120999999999999999999" (says (pos 999999999999999999)) ∷
    ask (column_in "I013654XYZ" "XYZ") "B1200005130000N00015000WA0010000120-999999999999999999" (says (neg_ℤ (pos 999999999999999999))) ∷
    -- "20 NOT_NUMBER: column is no such number": 19 digits, a letter, a minus alone, two of them
    ask (column_in "I013654XYZ" "XYZ") "B1200005130000N00015000WA00100001200000000000000000001" (refuses 20 0 0) ∷
    ask (column_in "I013638XYZ" "XYZ") "B1200005130000N00015000WA00100001201A2" (refuses 20 0 0) ∷
    ask (column_in "I013636XYZ" "XYZ") "B1200005130000N00015000WA0010000120-" (refuses 20 0 0) ∷
    ask (column_in "I013638XYZ" "XYZ") "B1200005130000N00015000WA0010000120--1" (refuses 20 0 0) ∷
    -- "FLP, DAE, DAN may have a minus first": ENL may not
    ask (column_in "I013638ENL" "ENL") "B1200005130000N00015000WA0010000120-05" (refuses 13 0 36) ∷
    -- "19 ABSENT: code (any 3 bytes) not in the layout"
    ask (column_in "I013638ENL" "FXA") "B1200005130000N00015000WA0010000120321" (refuses 19 0 0) ∷
    ask (column_in "I013638ENL" "a!,") "B1200005130000N00015000WA0010000120321" (refuses 19 0 0) ∷
    -- "Line readers repeat the checks of 7 to 13 after 17 ..; then 19, then 20."
    ask (column_in "I013638ENL" "FXA") "B1200005130000N00015000WA00100001203A1" (refuses 13 0 36) ∷
    ask (column_in "I013638ENL" "FXA") "L" (refuses 17 0 0) ∷
    []

pub columns_hold : hold columns ≡ true
unfolding everything agree hold columns column_in
columns_hold = refl

-- ---- layouts

pub layouts : List Example
unfolding bytes
layouts =
    -- "The first entry starts at 36 (I) or 8 (J)"; "Counting layout bytes from 0, as the 1994 examples do" is a slip
    ask b_length "I013638FXA" (says (pos 38)) ∷
    ask b_length "I013537FXA" (refuses 10 0 4) ∷
    ask k_length "J010810FXA" (says (pos 10)) ∷
    ask k_length "J010709FXA" (refuses 10 0 4) ∷
    ask k_length "J013638FXA" (refuses 10 0 4) ∷
    -- "with NN 00, or no such line, B has 35 and K has 7"
    ask k_length "J00" (says (pos 7)) ∷
    -- "FF is not below SS"
    ask b_length "I013635XYZ" (refuses 10 0 4) ∷
    -- "entries from the left, each by 9, 10, 11, 12": the second entry breaks 10, 11 and 12; then 11 and 12; then 12 alone
    ask b_length "I023638FXA4044FXA" (refuses 10 0 11) ∷
    ask b_length "I023638FXA3943FXA" (refuses 11 0 11) ∷
    ask b_length "I023638FXA3943ENL" (refuses 12 0 11) ∷
    -- and 9 before 10, each of SS, FF and CCC at its own first byte
    ask b_length "I023638FXA4A44FXA" (refuses 9 0 11) ∷
    ask b_length "I023638FXA404AFXA" (refuses 9 0 13) ∷
    ask b_length "I023638FXA4044FxA" (refuses 9 0 15) ∷
    -- the first entry's fault comes before the second's
    ask b_length "I023639FXA4A44FXA" (refuses 12 0 4) ∷
    -- "NN and the length against it come first (9, byte 2)"
    ask b_length "I033638FXA3940SIU" (refuses 9 0 2) ∷
    ask b_length "I0A3638FXA" (refuses 9 0 2) ∷
    -- "13 one-byte unlisted columns (length 94) pass", and B has 48
    ask b_length "I133636ZZA3737ZZB3838ZZC3939ZZD4040ZZE4141ZZF4242ZZG4343ZZH4444ZZI4545ZZJ4646ZZK4747ZZL4848ZZM" (says (pos 48)) ∷
    -- "an I line of 101 is 7"
    ask b_length "I143636ZZA3737ZZB3838ZZC3939ZZD4040ZZE4141ZZF4242ZZG4343ZZH4444ZZI4545ZZJ4646ZZK4747ZZL4848ZZM4949ZZN" (refuses 7 0 0) ∷
    -- "One u32 word tells which listed codes an I line carries, a bit for each number, with the count of those columns"
    ask word "I023638FXA3940SIU" (says (pos 3)) ∷
    ask carried "I023638FXA3940SIU" (says (pos 2)) ∷
    ask word "I023638XYZ3940DAN" (says (pos 16384)) ∷
    ask carried "I023638XYZ3940DAN" (says (pos 1)) ∷
    ask word "I00" (says (pos 0)) ∷
    ask carried "I00" (says (pos 0)) ∷
    []

pub layouts_hold : hold layouts ≡ true
unfolding everything ones agree hold layouts b_length k_length word carried
layouts_hold = refl

-- ---- kinds of lines

pub kinds : List Example
unfolding bytes
kinds =
    -- "A line of another kind than the reader's is 17."
    ask latitude_letter "K120000" (refuses 17 0 0) ∷
    ask latitude_letter "" (refuses 17 0 0) ∷
    ask year "I00" (refuses 17 0 0) ∷
    ask b_length "J00" (refuses 17 0 0) ∷
    ask k_length "I00" (refuses 17 0 0) ∷
    ask event "F120000" (refuses 17 0 0) ∷
    -- the kind is the first byte: a point is no head for its length, and a long one for its date
    ask flight "C5130000N00015000W" (refuses 7 0 0) ∷
    ask flight "C5130000N00015000WLASHAM" (refuses 7 0 0) ∷
    ask flight "C5130000N00015000WLASHAM CLUB" (refuses 25 0 2) ∷
    ask point "C5130000N00015000WLASHAM CLUB" (says (pos 3090000)) ∷
    []

pub kinds_hold : hold kinds ≡ true
unfolding everything agree hold kinds latitude_letter year b_length k_length event flight point
kinds_hold = refl

-- ---- the order of lines

pub orders : List Example
unfolding file_of
orders =
    -- "Line 1 is A, line 2 is H, then further H lines, then at most one I, then at most one J."
    lines ("HFDTE150724" ∷ "GABC" ∷ []) (refuses 6 1 1) ∷
    lines ("AXYZ001" ∷ "GABC" ∷ []) (refuses 6 2 1) ∷
    lines ("AXYZ001" ∷ "AXYZ001" ∷ []) (refuses 6 2 1) ∷
    lines ("AXYZ001" ∷ "HFDTE150724" ∷ "HFPLT" ∷ "I00" ∷ "J00" ∷ "GABC" ∷ []) (says (pos 6)) ∷
    lines ("AXYZ001" ∷ "HFDTE150724" ∷ "J00" ∷ "GABC" ∷ []) (says (pos 4)) ∷
    lines ("AXYZ001" ∷ "HFDTE150724" ∷ "J00" ∷ "I00" ∷ "GABC" ∷ []) (refuses 6 4 1) ∷
    lines ("AXYZ001" ∷ "HFDTE150724" ∷ "I00" ∷ "I00" ∷ "GABC" ∷ []) (refuses 6 4 1) ∷
    -- "After these come C, D, E, F, B, K, L and other, with no further A, H, I, J."
    lines ("AXYZ001" ∷ "HFDTE150724" ∷ "K120000" ∷ "E120000PEV" ∷ "F120000" ∷ "D1ABCD" ∷ "LXYZ" ∷ "ZXYZ" ∷ "GABC" ∷ []) (says (pos 9)) ∷
    lines ("AXYZ001" ∷ "HFDTE150724" ∷ "LXYZ" ∷ "I00" ∷ "GABC" ∷ []) (refuses 6 4 1) ∷
    -- "At most one declaration (h), begun before the first B: a C head, then at once its point lines, as many as its turn points plus 4"
    lines ("AXYZ001" ∷ "HFDTE150724" ∷ "C150724120000000000000100" ∷ "C5130000N00015000W" ∷ "C5130000N00015000W" ∷ "C5130000N00015000W" ∷ "C5130000N00015000W" ∷ "GABC" ∷ []) (says (pos 8)) ∷
    lines ("AXYZ001" ∷ "HFDTE150724" ∷ "C150724120000000000000100" ∷ "C5130000N00015000W" ∷ "C5130000N00015000W" ∷ "C5130000N00015000W" ∷ "C5130000N00015000W" ∷ "C150724120000000000000100" ∷ []) (refuses 6 8 1) ∷
    lines ("AXYZ001" ∷ "HFDTE150724" ∷ "C150724120000000000000100" ∷ "LXYZ" ∷ []) (refuses 6 4 1) ∷
    lines ("AXYZ001" ∷ "HFDTE150724" ∷ "B1200005130000N00015000WA0010000120" ∷ "C150724120000000000000100" ∷ []) (refuses 6 4 1) ∷
    -- "Then one or more G lines. After the first G only G or L; after an L that follows a G, only L."
    lines ("AXYZ001" ∷ "HFDTE150724" ∷ "LXYZ" ∷ "GABC" ∷ "GABC" ∷ "LXYZ" ∷ "LXYZ" ∷ []) (says (pos 7)) ∷
    lines ("AXYZ001" ∷ "HFDTE150724" ∷ "GABC" ∷ "LXYZ" ∷ "GABC" ∷ []) (refuses 6 5 1) ∷
    lines ("AXYZ001" ∷ "HFDTE150724" ∷ "GABC" ∷ "ZXYZ" ∷ []) (refuses 6 4 1) ∷
    -- "B, E, F and K lines run in time order."; "Equal times are fine."
    lines ("AXYZ001" ∷ "HFDTE150724" ∷ "K120000" ∷ "E120000PEV" ∷ "GABC" ∷ []) (says (pos 5)) ∷
    lines ("AXYZ001" ∷ "HFDTE150724" ∷ "K120000" ∷ "F115959" ∷ "GABC" ∷ []) (refuses 14 4 2) ∷
    []

pub orders_hold : hold orders ≡ true
unfolding everything file_of agree hold orders lines_in
orders_hold = refl

-- ---- lengths

pub lengths : List Example
unfolding file_of
lengths =
    -- "A 7 to 255"
    lines ("AXYZ00" ∷ []) (refuses 7 1 0) ∷
    -- "D 6"; "E 10 to 255"; "F 7 to 255"; "G 2 to 255"
    lines ("AXYZ001" ∷ "HFDTE150724" ∷ "D1ABC" ∷ []) (refuses 7 3 0) ∷
    lines ("AXYZ001" ∷ "HFDTE150724" ∷ "E120000PE" ∷ []) (refuses 7 3 0) ∷
    lines ("AXYZ001" ∷ "HFDTE150724" ∷ "F12000" ∷ []) (refuses 7 3 0) ∷
    lines ("AXYZ001" ∷ "HFDTE150724" ∷ "G" ∷ []) (refuses 7 3 0) ∷
    -- "L 1 to 99"
    lines ("AXYZ001" ∷ "HFDTE150724" ∷ "LXXXXXXXXXXXXXXXXXXXXXXXXXXXXXXXXXXXXXXXXXXXXXXXXXXXXXXXXXXXXXXXXXXXXXXXXXXXXXXXXXXXXXXXXXXXXXXXXXX" ∷ "L" ∷ "GABC" ∷ []) (says (pos 5)) ∷
    lines ("AXYZ001" ∷ "HFDTE150724" ∷ "LXXXXXXXXXXXXXXXXXXXXXXXXXXXXXXXXXXXXXXXXXXXXXXXXXXXXXXXXXXXXXXXXXXXXXXXXXXXXXXXXXXXXXXXXXXXXXXXXXXX" ∷ []) (refuses 7 3 0) ∷
    -- "B of 99 passes", and one byte less or more is 7
    lines ("AXYZ001" ∷ "HFDTE150724" ∷ "I013699ZZZ" ∷ "B1200005130000N00015000WA0010000120XXXXXXXXXXXXXXXXXXXXXXXXXXXXXXXXXXXXXXXXXXXXXXXXXXXXXXXXXXXXXXXX" ∷ "GABC" ∷ []) (says (pos 5)) ∷
    lines ("AXYZ001" ∷ "HFDTE150724" ∷ "I013699ZZZ" ∷ "B1200005130000N00015000WA0010000120XXXXXXXXXXXXXXXXXXXXXXXXXXXXXXXXXXXXXXXXXXXXXXXXXXXXXXXXXXXXXXX" ∷ []) (refuses 7 4 0) ∷
    lines ("AXYZ001" ∷ "HFDTE150724" ∷ "I013699ZZZ" ∷ "B1200005130000N00015000WA0010000120XXXXXXXXXXXXXXXXXXXXXXXXXXXXXXXXXXXXXXXXXXXXXXXXXXXXXXXXXXXXXXXXX" ∷ []) (refuses 7 4 0) ∷
    []

pub lengths_hold : hold lengths ≡ true
unfolding everything file_of agree hold lengths lines_in
lengths_hold = refl

-- ---- a line by its number, and a reading place

abbrev table : List ℕ
table = 0 ∷ 9 ∷ 22 ∷ 41 ∷ 83 ∷ []

-- where the line with this number ends, by a table
unfoldable pub end_of : List ℕ → ℕ → List ℕ → Said ℤ
end_of entries n file = and_then (bounds_of file entries n) λ b. says (pos b.to)

-- where a step from this place leads; -1 where no line is left
unfoldable pub step_from : ℕ → List ℕ → Said ℤ
step_from at file = and_then (step_at file at) λ s. says (given s.found (negsuc 0) λ _. pos s.next)

abbrev of : List ℕ → (List ℕ → Said ℤ) → Said ℤ → Example
of file asked answer = record { given = file; asked = asked; answer = answer }

pub places : List Example
unfolding file_of bytes
places =
    of five_lines (end_of table 1) (says (pos 7)) ∷
    of five_lines (end_of table 4) (says (pos 81)) ∷
    of five_lines (end_of table 5) (says (pos 87)) ∷
    -- "a number of 0 or past the table's entries"
    of five_lines (end_of table 0) (refuses 17 0 0) ∷
    of five_lines (end_of table 6) (refuses 17 0 0) ∷
    -- "a table entry that is neither 0 nor just past a CR LF, or with no CR LF from there on, is 17"
    of five_lines (end_of (8 ∷ []) 1) (refuses 17 0 0) ∷
    of five_lines (end_of (10 ∷ []) 1) (refuses 17 0 0) ∷
    of five_lines (end_of (89 ∷ []) 1) (refuses 17 0 0) ∷
    of (bytes "AXYZ001") (end_of (0 ∷ []) 1) (refuses 17 0 0) ∷
    -- "comes back at each step with the next line, or with the news that none is left"
    of five_lines (step_from 0) (says (pos 9)) ∷
    of five_lines (step_from 83) (says (pos 89)) ∷
    of five_lines (step_from 89) (says (negsuc 0)) ∷
    of [] (step_from 0) (says (negsuc 0)) ∷
    -- "a place past the end, or one with no CR LF after it though bytes remain, is 17"
    of five_lines (step_from 90) (refuses 17 0 0) ∷
    of five_lines (step_from 88) (refuses 17 0 0) ∷
    of (bytes "AXYZ001") (step_from 0) (refuses 17 0 0) ∷
    -- a lone CR or LF is text here
    of (65 ∷ 13 ∷ 66 ∷ 10 ∷ 13 ∷ 13 ∷ 10 ∷ []) (step_from 0) (says (pos 7)) ∷
    []

pub places_hold : hold places ≡ true
unfolding everything file_of agree hold places end_of step_from
places_hold = refl
