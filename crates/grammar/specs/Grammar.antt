-- Document 01's rules of a whole file as a grammar, with document 02's M and N lines and finer digits, apart from any check: what a line of each kind is, which kind may follow which, and the
-- order of times.
-- A line with a date, a time, a layout or a position is the text of such values within their limits; the listed codes, the characters and the limits are document 01's own
-- words (crate grammar_words). Of the rules it has types and the texts of values. It has `first_start`, `layout_letter` and, in the text of a K or an N line, `line_letter`:
-- `starts_exactly` and `letters_exactly` hold these. It has `layout_of`, which `answers_exactly` holds, with `entries_of`, `empty_layout` and `unused`, the parts of the answer's
-- layouts.
use Rattle.std.specs.Prelude.{ℕ, ◌+◌, ◌-◌, ◌*◌, ◌%◌, ◌^◌, ◌≤◌, ◌<◌, Bool, true, false, cond, List, [], ◌∷◌, ◌++◌, ◌⊎◌, ◌≡◌, eqb, leb, length, get_or, replicate, None, Option, Some}
use Prim.Native.Char.{code}
use Rattle.std.specs.Prelude as std
use Rattle.rules.specs.Families.{first_start, layout_letter, layout_of}
use Rattle.rules.specs.Choice.{byte, bytes, part, Each}
use Rattle.rules.specs.Fields.{time_text, date_text}
use Rattle.rules.specs.Numbers.{digits_of}
use Rattle.rules.specs.Listed.{code_text}
use Rattle.rules.specs.Layouts.{unused, empty_layout, entries_of}
use Rattle.rules.specs.Writes.{fields_text, extra_text, entry_texts, head_text, point_text}
use Rattle.rules.specs.declared.Date.{Date}
use Rattle.rules.specs.declared.Entry.{Entry}
use Rattle.rules.specs.declared.Layout.{Layout}
use Rattle.rules.specs.declared.Extra.{Extra}
use Rattle.rules.specs.declared.Extra.TheVariants as extra
use Rattle.rules.specs.declared.Family.{Family}
use Rattle.rules.specs.declared.Family.TheVariants as family
use Rattle.rules.specs.declared.Layouts.{Layouts}
use Rattle.rules.specs.declared.Counts.{Counts}
use Rattle.rules.specs.declared.FixFields.{FixFields}
use Rattle.rules.specs.declared.Fix.{Fix}
use Rattle.rules.specs.declared.Head.{Head}
use Rattle.rules.specs.declared.Point.{Point}
use Rattle.rules.specs.declared.Flight.{Flight}
use Rattle.rules.specs.declared.Seal.{Seal}
use Rattle.rules.specs.declared.Seal.TheVariants as seal
use Rattle.grammar_words.specs.Characters.{IsValid, IsCode, CodesAt}
use Rattle.grammar_words.specs.Codes.{RowSays, Holds}
use Rattle.grammar_words.specs.Values.{IsTime, IsLatitude, IsLongitude, IsFixFields}
use Rattle.grammar_words.specs.Finer.{OnlyZeros, Zeros, AtLatitude, AtLongitude}

-- ---- 'Lines' and 'Fields': a line of each kind, without its CR LF

-- "Lengths below leave CR LF out": from least to most bytes, each a valid character; in an H line the comma is one
pub record Shaped (least most : ℕ) (in_h : Bool) (l : List ℕ) : Type 0 where
  pub long : least ≤ length l
  pub short : length l ≤ most
  pub valid : Each (IsValid in_h) l

-- "A 7 to 255"; "A: 3 code characters for the maker, 3 for the serial, then text."
pub record IsALine (l : List ℕ) : Type 0 where
  pub letter : get_or l 0 0 ≡ code "A"
  pub shape : Shaped 7 255 false l
  pub maker : CodesAt l (byte 2) 3
  pub serial : CodesAt l (byte 5) 3

-- how many days a month of a year has; from 1980 to 2079 a year that 4 divides is a leap year
pub data Days (year : ℕ) : ℕ → ℕ → Type 0 where
  january : Days year 1 31
  february : (year % 4 ≡ 0 → ⊥) → Days year 2 28
  february_leap : year % 4 ≡ 0 → Days year 2 29
  march : Days year 3 31
  april : Days year 4 30
  may : Days year 5 31
  june : Days year 6 30
  july : Days year 7 31
  august : Days year 8 31
  september : Days year 9 30
  october : Days year 10 31
  november : Days year 11 30
  december : Days year 12 31

-- "Years 80 to 99 are 1980 to 1999, 00 to 79 are 2000 to 2079 (h). The day must exist in that month and year."
pub record IsDay (d : Date) : Type 0 where
  pub from : 1980 ≤ d.year
  pub to : d.year ≤ 2079
  pub days : ℕ
  pub month : Days d.year d.month days
  pub low : 1 ≤ d.day
  pub high : d.day ≤ days

-- "second line exactly 11"; "Line 2: H, FDTE at 2 to 5 as one field, DDMMYY at 6 to 11; a longer date line is refused (h)."
pub record IsDateLine (d : Date) (l : List ℕ) : Type 0 where
  pub text : l ≡ code "H" ∷ code "F" ∷ code "D" ∷ code "T" ∷ code "E" ∷ date_text d
  pub day : IsDay d

-- "other H 5 to 255"; "Other H: F or O, 3 code characters, text."
pub record IsHLine (l : List ℕ) : Type 0 where
  pub letter : get_or l 0 0 ≡ code "H"
  pub shape : Shaped 5 255 true l
  pub source : (get_or l (byte 2) 0 ≡ code "F") ⊎ (get_or l (byte 2) 0 ≡ code "O")
  pub subject : CodesAt l (byte 3) 3

-- how many bytes a column has, the first and the last among them
abbrev pub width_of : Entry → ℕ
width_of e = e.last - e.first + 1

-- "start SS, finish FF and a code CCC of 3 code characters", FF in two digits; "FF is not below SS"; "Listed codes, .. with least and most width"; "An unlisted code may have
-- any width"
pub record IsEntry (start : ℕ) (e : Entry) : Type 0 where
  pub starts : e.first ≡ start
  pub ends : e.first ≤ e.last
  pub spelt : e.last ≤ 99
  pub word : Each IsCode (code_text e.code)
  pub wide : RowSays e.code (λ p. (p.least ≤ width_of e) × (width_of e ≤ p.most))

-- "each next starts one past the last finish (h)"; "No code comes twice in one layout."
abbrev pub Tiles : ℕ → List Entry → Type 0
Tiles start [] = Unit {0}
Tiles start (e ∷ es) = IsEntry start e × Each (λ x. x.code ≡ e.code → ⊥) es × Tiles (e.last + 1) es

-- the layout of these entries as the library's type has it: they stand in the first of 13 slots, and the others are all zero
abbrev pub laid : List Entry → Layout
laid es = record { count = length es; entries = es ++ replicate (13 - length es) unused }

-- "I, J 3 to 99"; "NN, then NN entries of start SS, finish FF and a code CCC .. The length is 3 + 7 × NN. The first entry starts at 36 (I) or 8 (J)"; "M is built as J is"
pub record IsLayoutLine (f : Family) (layout : Layout) (l : List ℕ) : Type 0 where
  pub entries : List Entry
  pub tiles : Tiles (first_start f) entries
  pub text : l ≡ layout_letter f ∷ (digits_of 2 (length entries) ++ entry_texts entries)
  pub short : length l ≤ 99
  pub slots : layout ≡ laid entries

-- "(000000 means not given; every other value must be a date ..)"
abbrev pub IsPlanned : Option Date → Type 0
IsPlanned (Some d) = IsDay d
IsPlanned None = Unit {0}

-- "C head 25 to 255"; "C head: declared date, time, flight date (000000 means not given; every other value must be a date, and the declared date always), 4-digit task
-- number, 2-digit number of turn points, text."
pub record IsHeadLine (h : Head) (l : List ℕ) : Type 0 where
  pub rest : List ℕ
  pub text : l ≡ head_text h rest
  pub declared : IsDay h.declared
  pub time : IsTime h.time
  pub flight : IsPlanned h.flight
  pub task : h.task ≤ 9999
  pub turns : h.turns ≤ 99
  pub shape : Shaped 25 255 false l

-- "C point 18 to 255"; "C point: latitude, longitude, text."
pub record IsPointLine (l : List ℕ) : Type 0 where
  pub point : Point
  pub rest : List ℕ
  pub text : l ≡ point_text point rest
  pub lat : IsLatitude point.lat
  pub lon : IsLongitude point.lon
  pub shape : Shaped 18 255 false l

-- "D 6"; "D: 1 or 2, then 4 code characters."
pub record IsDLine (l : List ℕ) : Type 0 where
  pub letter : get_or l 0 0 ≡ code "D"
  pub shape : Shaped 6 6 false l
  pub qualifier : (get_or l (byte 2) 0 ≡ code "1") ⊎ (get_or l (byte 2) 0 ≡ code "2")
  pub station : CodesAt l (byte 3) 4

-- "E 10 to 255"; "E: time, 3 code characters, text."
pub record IsELine (t : ℕ) (l : List ℕ) : Type 0 where
  pub rest : List ℕ
  pub text : l ≡ code "E" ∷ (time_text t ++ rest)
  pub time : IsTime t
  pub shape : Shaped 10 255 false l
  pub event : CodesAt l (byte 8) 3

-- "F 7 to 255"; "F: time, then pairs of code characters, perhaps none."
pub record IsFLine (t : ℕ) (l : List ℕ) : Type 0 where
  pub pairs : List ℕ
  pub text : l ≡ code "F" ∷ (time_text t ++ pairs)
  pub time : IsTime t
  pub shape : Shaped 7 255 false l
  pub even : length pairs % 2 ≡ 0
  pub codes : Each IsCode pairs

-- The columns of a line, one behind the other, each as many bytes as from its entry's SS to its FF, and none behind the last: "A line of that kind ends at the last FF". Each
-- holds valid characters, and that of a listed code keeps its rule. Where `AtLat` or `AtLon` says that a coordinate of the line is at its limit, its finer digits are zeros.
pub data Columns (AtLat AtLon : Type 0) : List Entry → List ℕ → Type 0 where
  none : Columns AtLat AtLon [] []
  column : {e : Entry} {es : List Entry} {t : List ℕ} (c : List ℕ)
      → length c ≡ width_of e
      → Each (IsValid false) c
      → RowSays e.code (λ p. Holds p.name c)
      → (OnlyZeros AtLat AtLon (code_text e.code) → Zeros c)
      → Columns AtLat AtLon es t
      → Columns AtLat AtLon (e ∷ es) (c ++ t)

-- an entry of this code stands among the entries
pub record Carries (es : List Entry) (name : List ℕ) : Type 0 where
  pub before : List Entry
  pub entry : Entry
  pub after : List Entry
  pub order : es ≡ before ++ (entry ∷ after)
  pub coded : code_text entry.code ≡ name

-- the bytes of a line from an entry's SS to its FF
abbrev pub bytes_of : Entry → List ℕ → List ℕ
bytes_of e l = part (byte e.first) e.last l

-- Document 02, request 9: "a count with a number of extra decimals: the old count times ten for each digit, plus the digits of LAD, LOD or TDS ..; none without the column": by the
-- column of this code in the line
pub data Finer (name : List ℕ) (es : List Entry) (l : List ℕ) (old count decimals : ℕ) : Type 0 where
  without : Each (λ e. code_text e.code ≡ name → ⊥) es → count ≡ old → decimals ≡ 0 → Finer name es l old count decimals
  digits : (c : Carries es name) (v : ℕ)
      → bytes_of c.entry l ≡ digits_of decimals v
      → v < 10 ^ decimals
      → count ≡ old * 10 ^ decimals + v
      → Finer name es l old count decimals

-- "Latitude, longitude and time in the fix record each become a count with a number of extra decimals": the fix that a line has whose bytes before the columns spell these fields
pub record Refines (es : List Entry) (l : List ℕ) (plain : FixFields) (f : Fix) : Type 0 where
  pub time : Finer (bytes "TDS") es l plain.time f.time.count f.time.decimals
  pub lat : Finer (bytes "LAD") es l plain.lat.count f.lat.count f.lat.decimals
  pub lat_letter : f.lat.letter ≡ plain.lat.letter
  pub lon : Finer (bytes "LOD") es l plain.lon.count f.lon.count f.lon.decimals
  pub lon_letter : f.lon.letter ≡ plain.lon.letter
  pub validity : f.validity ≡ plain.validity
  pub pressure : f.pressure ≡ plain.pressure
  pub gnss : f.gnss ≡ plain.gnss

-- "B: time 2 to 7; latitude DDMMmmm and N or S, 8 to 15; longitude DDDMMmmm and E or W, 16 to 24; A or V, 25; pressure altitude 26 to 30; GNSS altitude 31 to 35;
-- columns from 36."; "B and K exactly what their layout gives"; "LAD or LOD digits other than zeros break their column's rule where the plain count is already at its limit."
pub record IsBLine (layout : Layout) (f : Fix) (l : List ℕ) : Type 0 where
  pub plain : FixFields
  pub tail : List ℕ
  pub text : l ≡ fields_text plain tail
  pub fields : IsFixFields plain
  pub columns : Columns (AtLatitude plain) (AtLongitude plain) (entries_of layout) tail
  pub refines : Refines (entries_of layout) l plain f

-- "K: time 2 to 7, columns from 8."; "B and K exactly what their layout gives"; "N is built as K is: time at 2 to 7, columns from 8, exact length, listed codes checked"; it has no
-- coordinates
pub record IsExtraLine (x : Extra) (layout : Layout) (t : ℕ) (l : List ℕ) : Type 0 where
  pub tail : List ℕ
  pub text : l ≡ extra_text x t tail
  pub time : IsTime t
  pub columns : Columns ⊥ ⊥ (entries_of layout) tail

-- a B line, a K line or an N line, by its layout, and its time, of a B line the plain one: "Time order .. still use the plain counts."
abbrev pub IsColumned : Family → Layout → ℕ → List ℕ → Type 0
IsColumned family.B layout t l = (f : Fix) × (w : IsBLine layout f l) × (w.plain.time ≡ t)
IsColumned (family.Extra x) layout t l = IsExtraLine x layout t l

-- "L 1 to 99"
pub record IsLLine (l : List ℕ) : Type 0 where
  pub letter : get_or l 0 0 ≡ code "L"
  pub shape : Shaped 1 99 false l

-- "G 2 to 255"; "The G code is carried and never judged."
pub record IsGLine (l : List ℕ) : Type 0 where
  pub letter : get_or l 0 0 ≡ code "G"
  pub shape : Shaped 2 255 false l

-- "other 1 to 255"; "M to Z are 'other' and carried (h)."; "M and N are 'other' no more": O to Z
pub record IsOtherLine (l : List ℕ) : Type 0 where
  pub from : code "O" ≤ get_or l 0 0
  pub to : get_or l 0 0 ≤ code "Z"
  pub shape : Shaped 1 255 false l

-- ---- "B, E, F and K lines run in time order."; of N: "and it joins the time order"

-- "A fall of more than 43,200 seconds from the one before counts as the next day; a smaller fall, or one of exactly 43,200, is refused (h). Equal times are fine."
abbrev pub Follows : ℕ → ℕ → Type 0
Follows before now = (before ≤ now) ⊎ (43200 < before - now)

-- each time follows the one before it, the first follows `before`
abbrev pub OrderFrom : ℕ → List ℕ → Type 0
OrderFrom before [] = Unit {0}
OrderFrom before (t ∷ ts) = Follows before t × OrderFrom t ts

-- each time follows the one before it
abbrev pub InOrder : List ℕ → Type 0
InOrder [] = Unit {0}
InOrder (t ∷ ts) = OrderFrom t ts

-- ---- 'Which kind may follow which'

-- "at most one I", "at most one J", of M "at most one": the layout of its lines; "with NN 00, or no such line", the empty one
pub data AtMostOne (f : Family) : Layout → List (List ℕ) → Type 0 where
  absent : AtMostOne f empty_layout []
  given : {layout : Layout} {l : List ℕ} → IsLayoutLine f layout l → AtMostOne f layout (l ∷ [])

-- a line of the body with a time t
pub data Timed (layouts : Layouts) (t : ℕ) (l : List ℕ) : Type 0 where
  columned : (f : Family) → IsColumned f (layout_of f layouts) t l → Timed layouts t l
  event : IsELine t l → Timed layouts t l
  satellites : IsFLine t l → Timed layouts t l

-- a line of the body with no time
pub data Untimed (l : List ℕ) : Type 0 where
  differential : IsDLine l → Untimed l
  remark : IsLLine l → Untimed l
  other : IsOtherLine l → Untimed l

-- "C, D, E, F, B, K, L and other", and N, all but C, in any order; and their times in the order of the lines
pub data Items (layouts : Layouts) : List (List ℕ) → List ℕ → Type 0 where
  done : Items layouts [] []
  timed : {l : List ℕ} {ls : List (List ℕ)} {t : ℕ} {ts : List ℕ} → Timed layouts t l → Items layouts ls ts → Items layouts (l ∷ ls) (t ∷ ts)
  untimed : {l : List ℕ} {ls : List (List ℕ)} {ts : List ℕ} → Untimed l → Items layouts ls ts → Items layouts (l ∷ ls) ts

-- "At most one declaration (h), begun before the first B: a C head, then at once its point lines, as many as its turn points plus 4 (take-off, start, finish, landing)."
pub data Body (layouts : Layouts) : List (List ℕ) → List ℕ → Type 0 where
  undeclared : {ls : List (List ℕ)} {ts : List ℕ} → Items layouts ls ts → Body layouts ls ts
  declared : {ts us : List ℕ} (before : List (List ℕ)) (head : List ℕ) (points after : List (List ℕ)) (h : Head)
      → Items layouts before ts
      → Each (λ l. get_or l 0 0 ≡ code "B" → ⊥) before
      → IsHeadLine h head
      → Each IsPointLine points
      → length points ≡ h.turns + 4
      → Items layouts after us
      → Body layouts (before ++ (head ∷ (points ++ after))) (ts ++ us)

-- the lines of a file, part by part
pub record Parts : Type 0 where
  pub recorder : List ℕ
  pub day : List ℕ
  pub headers : List (List ℕ)
  -- the lines that tell each family's layout
  pub told : Family → List (List ℕ)
  pub body : List (List ℕ)
  pub seals : List (List ℕ)
  pub remarks : List (List ℕ)

-- "then at most one I, then at most one J"; of M: "straight after J, or after I or the H lines if those are missing"
abbrev pub told_in : Parts → List (List ℕ)
told_in p = p.told family.B ++ (p.told (family.Extra extra.K) ++ p.told (family.Extra extra.N))

-- in their order
abbrev pub lines_in : Parts → List (List ℕ)
lines_in p = p.recorder ∷ p.day ∷ (p.headers ++ (told_in p ++ (p.body ++ (p.seals ++ p.remarks))))

-- "The usual check now accepts a file with no G"; "A separate strict check keeps the old rule": "At least one G is needed (h)."
abbrev pub SealedBy : Seal → List (List ℕ) → Type 0
SealedBy seal.Usual gs = Unit {0}
SealedBy seal.Strict gs = 1 ≤ length gs

-- "Line 1 is A, line 2 is H, then further H lines, then at most one I, then at most one J. After these come C, D, E, F, B, K, L and other, with no further A, H,
-- I, J." So do N lines, and there is no further M. "Then one or more G lines. After the first G only G or L; after an L that follows a G, only L." How many G lines are
-- needed, the seal says.
pub record Keeps (seal : Seal) (p : Parts) (date : Date) (layouts : Layouts) (times : List ℕ) : Type 0 where
  pub recorder : IsALine p.recorder
  pub day : IsDateLine date p.day
  pub headers : Each IsHLine p.headers
  pub told : (f : Family) → AtMostOne f (layout_of f layouts) (p.told f)
  pub body : Body layouts p.body times
  pub order : InOrder times
  pub seals : Each IsGLine p.seals
  pub sealed : SealedBy seal p.seals
  pub remarks : Each IsLLine p.remarks

-- ---- the file

-- neither CR (13) nor LF (10)
abbrev pub IsText : List ℕ → Type 0
IsText l = Each (λ b. (b ≡ 13 → ⊥) × (b ≡ 10 → ⊥)) l

-- "Every line, the last one too, ends with CR LF.": the bytes of the lines
unfoldable pub join_lines : List (List ℕ) → List ℕ
join_lines [] = []
join_lines (l ∷ ls) = l ++ (13 ∷ 10 ∷ join_lines ls)

-- "One IGC file": it has lines, and they keep to all the rules above
pub record Meets (seal : Seal) (file : List ℕ) : Type 0 where
  -- "A file has 1 to 16,777,216 bytes (h)."
  pub least : 1 ≤ length file
  pub most : length file ≤ 16777216
  -- it is its lines, each a text with its CR LF
  pub parts : Parts
  pub bytes : file ≡ join_lines (lines_in parts)
  pub texts : Each IsText (lines_in parts)
  -- and they keep to the rules, with this date, these layouts and these times
  pub date : Date
  pub layouts : Layouts
  pub times : List ℕ
  pub keeps : Keeps seal parts date layouts times

-- ---- the table

-- so many lines have an entry each in the lent table, where one is lent
abbrev pub Fits : std.Option ℕ → ℕ → Type 0
Fits std.None lines = Unit {0}
Fits (std.Some most) lines = lines ≤ most

-- ---- what the file says

-- how many lines begin with a letter
unfoldable pub beginning : ℕ → List (List ℕ) → ℕ
beginning x [] = 0
beginning x (l ∷ ls) = cond (eqb (get_or l 0 0) x) 1 0 + beginning x ls

-- how many of them are B lines, K lines and N lines
abbrev pub counts_in : List (List ℕ) → Counts
counts_in ls = record { b = beginning (code "B") ls; k = beginning (code "K") ls; n = beginning (code "N") ls }

-- "'signed' is yes exactly when a G line exists"
abbrev pub signed_in : List (List ℕ) → Bool
signed_in ls = leb 1 (beginning (code "G") ls)

-- "the date, the I and J layouts, the count of lines, of B lines and of K lines"; the M layout and the count of N lines; "and answers 'signed' yes or no"
abbrev pub flight_of : {seal : Seal} {file : List ℕ} → Meets seal file → Flight
flight_of m = record {
  date = m.date;
  layouts = m.layouts;
  lines = length (lines_in m.parts);
  counts = counts_in (lines_in m.parts);
  signed = signed_in (lines_in m.parts);
}
