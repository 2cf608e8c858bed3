-- Document 01, 'The file we take and what we do with it': what can be read from an accepted file, line by line, with the layouts of the answer. Each reader says the value whose
-- line, by the grammar, it is given.
use Rattle.std.specs.Prelude.{ℕ, ◌+◌, ◌-◌, ◌^◌, ◌≤◌, ◌<◌, List, [], ◌∷◌, ◌++◌, ◌≡◌, pos, neg_ℤ, length, get_or, take, drop, None, Some}
use Prim.Native.Char.{code}
use Rattle.rules.specs.Families.{first_start, line_letter, layout_letter, layout_of, count_of}
use Rattle.rules.specs.Choice.{part, Each}
use Rattle.rules.specs.Refusals.{Said, says, refuses, no}
use Rattle.rules.specs.Numbers.{digits_of}
use Rattle.rules.specs.Degrees.{degrees_of}
use Rattle.rules.specs.Listed.{code_text}
use Rattle.rules.specs.Layouts.{empty_layout, span_of, entries_of, column_text, length_said, presence_said}
use Rattle.rules.specs.Split.{bounds_of, line_text, step_at}
use Rattle.rules.specs.Files.{table_after}
use Rattle.rules.specs.Reads.{reading, date_said, event_said, satellites_said, layout_said, head_said, head_rest, point_said, point_rest}
use Rattle.rules.specs.Looks.{look_said, look_text, look_number}
use Rattle.rules.specs.declared.Reason.TheVariants.{Absent, NotNumber}
use Rattle.rules.specs.declared.Signed.{Signed}
use Rattle.rules.specs.declared.Entry.{Entry}
use Rattle.rules.specs.declared.Layout.{Layout}
use Rattle.rules.specs.declared.Extra.{Extra}
use Rattle.rules.specs.declared.Family.{Family}
use Rattle.rules.specs.declared.Family.TheVariants as family
use Rattle.rules.specs.declared.Position.{Position}
use Rattle.rules.specs.declared.FinePosition.{FinePosition}
use Rattle.rules.specs.declared.Degrees.{Degrees}
use Rattle.rules.specs.declared.Fix.{Fix}
use Rattle.rules.specs.declared.Head.{Head}
use Rattle.rules.specs.declared.Layouts.{Layouts}
use Rattle.rules.specs.declared.Flight.{Flight}
use Rattle.rules.specs.declared.Seal.{Seal}
use Rattle.grammar_words.specs.Codes.{Row, rows}
use Rattle.grammar_words.specs.Finer.{IsFineLatitude, IsFineLongitude, IsAngle}
use Rattle.grammar.specs.Grammar.{IsText, IsDateLine, width_of, Carries, IsLayoutLine, IsELine, IsFLine, IsBLine, IsExtraLine, IsHeadLine, IsPointLine, join_lines, beginning}
use Rattle.grammar.specs.Coming.{size_of}

-- ---- a column

-- "as a whole number where it is 1 to 18 digits, with or without a minus before them": the text is the digits of a number
pub data Spells (t : List ℕ) : Signed → Type 0 where
  plain : (n v : ℕ) → 1 ≤ n → n ≤ 18 → v < 10 ^ n → t ≡ digits_of n v → Spells t (record { value = pos v })
  minus : (n v : ℕ) → 1 ≤ n → n ≤ 18 → v < 10 ^ n → t ≡ code "-" ∷ digits_of n v → Spells t (record { value = neg_ℤ (pos v) })

-- the number that a text spells; "20 NOT_NUMBER" where it spells none
abbrev pub NumberOf : List ℕ → Said Signed → Type 0
NumberOf t (says z) = Spells t z
NumberOf t (refuses n l b) = (refuses n l b ≡ no {A = Signed} NotNumber 0) × ((z : Signed) → Spells t z → ⊥)

-- "A column is read by its code as text, and as a whole number ..", by "a look into that answer", whose entries are `es`: an entry's code leads to the bytes from its first
-- to its last, so many, and to their number
pub record ReadsColumn (es : Layout) (l : List ℕ) (e : Entry) : Type 0 where
  pub span : look_said l es (code_text e.code) ≡ says (span_of e)
  pub text : look_text l (look_said l es (code_text e.code)) ≡ column_text l (span_of e)
  pub wide : length (column_text l (span_of e)) ≡ width_of e
  pub number : NumberOf (column_text l (span_of e)) (look_number l es (code_text e.code))

-- the texts of the columns, one behind the other
unfoldable pub column_texts : List ℕ → List Entry → List ℕ
column_texts l [] = []
column_texts l (e ∷ es) = column_text l (span_of e) ++ column_texts l es

-- "code (any 3 bytes)"
pub record IsName (name : List ℕ) : Type 0 where
  pub three : length name ≡ 3
  pub bytes : Each (λ b. b < 256) name

-- the columns of a B, a K or an N line, by the look into the entries of its reading
pub record ReadsColumns (f : Family) (es : Layout) (l : List ℕ) : Type 0 where
  pub carried : Each (ReadsColumn es l) (entries_of es)
  -- "19 ABSENT: code (any 3 bytes) not in the layout": every other code
  pub absent : (name : List ℕ) → IsName name → Each (λ e. code_text e.code ≡ name → ⊥) (entries_of es) → look_said l es name ≡ no Absent 0
  -- together they are the line's tail
  pub tail : column_texts l (entries_of es) ≡ drop (first_start f - 1) l

-- ---- what a layout says by itself

-- "One u32 word tells which listed codes an I line carries, a bit for each number, with the count of those columns: bit n, worth 2^n, for number n.": of these rows, the first
-- of which has the number n, the word and the count
pub data Present (es : List Entry) : List Row → ℕ → ℕ → ℕ → Type 0 where
  no_rows : {n : ℕ} → Present es [] n 0 0
  carried : {r : Row} {rs : List Row} {n word count : ℕ} → Carries es r.name → Present es rs (n + 1) word count → Present es (r ∷ rs) n (2 ^ n + word) (count + 1)
  absent : {r : Row} {rs : List Row} {n word count : ℕ} → Each (λ e. code_text e.code ≡ r.name → ⊥) es → Present es rs (n + 1) word count → Present es (r ∷ rs) n word count

-- the listed codes of an I line
pub record ReadsPresence (layout : Layout) : Type 0 where
  pub word : ℕ
  pub count : ℕ
  pub is : Present (entries_of layout) rows 0 word count
  pub reads : presence_said layout ≡ says (record { word = word; count = count })

-- the length of a family's lines
pub record ReadsLayout (f : Family) (layout : Layout) : Type 0 where
  -- "A line of that kind ends at the last FF; with NN 00, or no such line, B has 35 and K has 7."; "N is built as K is"
  pub long : length_said f layout ≡ says (size_of f (entries_of layout))

-- ---- "any fix, column, K line or declaration read"; any N line

-- "For the map, a position also comes as a pair of f64 degrees": a latitude and a longitude within their limits, with all their decimals, and of each its degrees
pub record OnMap (lat lon : FinePosition) (d : Degrees) : Type 0 where
  pub latitude : IsFineLatitude lat
  pub longitude : IsFineLongitude lon
  pub lat_angle : IsAngle lat d.lat
  pub lon_angle : IsAngle lon d.lon

-- of positions that were read it is never refused
pub record ReadsMap (lat lon : FinePosition) : Type 0 where
  pub degrees : Degrees
  pub is : OnMap lat lon degrees
  pub reads : degrees_of lat lon ≡ says degrees

-- a B line reads, by the I layout, as the fix whose line it is, "and for each entry, in layout order, up to 13, its code, first and last byte": the entries of that layout
pub record ReadsFix (layout : Layout) (l : List ℕ) : Type 0 where
  pub fix : Fix
  pub is : IsBLine layout fix l
  pub reads : reading family.B l layout ≡ says (record { value = fix; entries = layout })
  pub map : ReadsMap fix.lat fix.lon
  pub columns : ReadsColumns family.B layout l

-- a K line, by the J layout, or an N line, by the M layout, as the time whose line it is, and the entries
pub record ReadsExtra (x : Extra) (layout : Layout) (l : List ℕ) : Type 0 where
  pub time : ℕ
  pub is : IsExtraLine x layout time l
  pub reads : reading (family.Extra x) l layout ≡ says (record { value = time; entries = layout })
  pub columns : ReadsColumns (family.Extra x) layout l

-- a line of a family, by its layout
abbrev pub ReadsColumned : Family → Layout → List ℕ → Type 0
ReadsColumned family.B layout l = ReadsFix layout l
ReadsColumned (family.Extra x) layout l = ReadsExtra x layout l

-- a line reads as the value whose line it is
pub record ReadsValue {A : Type 0} (said : List ℕ → Said A) (Is : A → List ℕ → Type 0) (v : A) (l : List ℕ) : Type 0 where
  pub is : Is v l
  pub reads : said l ≡ says v

-- an E line or an F line as its time
abbrev pub ReadsTime : (List ℕ → Said ℕ) → (ℕ → List ℕ → Type 0) → List ℕ → Type 0
ReadsTime said Is l = (t : ℕ) × ReadsValue said Is t l

-- a B line by the I layout, a K line by the J layout, an N line by the M layout; the I, the J and the M line as that layout; an E line and an F line
pub record ReadsLine (layouts : Layouts) (l : List ℕ) : Type 0 where
  pub columned : (g : Family) → get_or l 0 0 ≡ line_letter g → ReadsColumned g (layout_of g layouts) l
  pub tells : (g : Family) → get_or l 0 0 ≡ layout_letter g → ReadsValue (layout_said g) (IsLayoutLine g) (layout_of g layouts) l
  pub event : get_or l 0 0 ≡ code "E" → ReadsTime event_said IsELine l
  pub satellites : get_or l 0 0 ≡ code "F" → ReadsTime satellites_said IsFLine l

-- a C head reads as the head whose line it is, and as the text behind its fields
pub record ReadsHead (h : Head) (l : List ℕ) : Type 0 where
  pub is : IsHeadLine h l
  pub reads : head_said l ≡ says h
  pub text : head_rest l (head_said l) ≡ is.rest

-- the positions of a C point have no extra decimals
abbrev pub unrefined : Position → FinePosition
unrefined p = record { count = p.count; letter = p.letter; decimals = 0 }

-- a C point line as the point whose line it is, and as the text behind its fields
pub record ReadsPoint (l : List ℕ) : Type 0 where
  pub is : IsPointLine l
  pub reads : point_said l ≡ says is.point
  pub map : ReadsMap (unrefined is.point.lat) (unrefined is.point.lon)
  pub text : point_rest l (point_said l) ≡ is.rest

-- a line of another kind than C
abbrev pub NoC : List ℕ → Type 0
NoC l = get_or l 0 0 ≡ code "C" → ⊥

-- "At most one declaration (h) ..: a C head, then at once its point lines, as many as its turn points plus 4": there is no C line; or the first one reads as the head
-- whose line it is, its points follow, each read as the point whose line it is, and there is no other
pub data ReadsDeclaration (lines : List (List ℕ)) : Type 0 where
  nowhere : Each NoC lines → ReadsDeclaration lines
  declared : (before : List (List ℕ)) (head : List ℕ) (points after : List (List ℕ)) (h : Head)
      → lines ≡ before ++ (head ∷ (points ++ after))
      → Each NoC before
      → ReadsHead h head
      → Each ReadsPoint points
      → length points ≡ h.turns + 4
      → Each NoC after
      → ReadsDeclaration lines

-- ---- lines by number, and step by step

-- "line lengths plus 2 each"
unfoldable pub total : List (List ℕ) → ℕ
total [] = 0
total (l ∷ ls) = length l + 2 + total ls

-- the lent table afterwards: "for each line .. the offset of its first byte", as many bytes as the lines before it have with their CR LF; the rest as lent; as many entries
pub record Entered (lines : List (List ℕ)) (table after : List ℕ) : Type 0 where
  pub entries : (n : ℕ) → n < length lines → get_or after n 0 ≡ total (take n lines)
  pub unchanged : (n : ℕ) → length lines ≤ n → get_or after n 0 ≡ get_or table n 0
  pub long : length after ≡ length table
  pub room : length lines ≤ length table

-- "A reading place over the lines .. comes back at each step with the next line, or with the news that none is left"
unfoldable pub Steps : List ℕ → ℕ → List (List ℕ) → Type 0
Steps file at [] = step_at file at ≡ says (record { found = None; next = at })
Steps file at (l ∷ ls) =
    (step_at file at ≡ says (record { found = Some (record { from = at; to = at + length l }); next = at + length l + 2 }))
    × (part at (at + length l) file ≡ l)
    × Steps file (at + length l + 2) ls

-- ---- the file, the lent table, and what the answer says of them

pub record Readable (seal : Seal) (file table : List ℕ) (f : Flight) : Type 0 where
  -- the lines that the file is cut into
  pub lines : List (List ℕ)
  pub bytes : file ≡ join_lines lines
  pub texts : Each IsText lines
  -- "Each byte of the file belongs to one line or its ending: line lengths plus 2 each total the file's length."
  pub lengths : total lines ≡ length file
  -- "the count of lines, of B lines and of K lines"; and of N lines
  pub counted : f.lines ≡ length lines
  pub counts : (g : Family) → count_of g f.counts ≡ beginning (line_letter g) lines
  -- "a lent table of u32 numbers whose entry for each line is the offset of its first byte"; the rest unchanged
  pub entered : Entered lines table (table_after seal file table)
  -- "any line, without its CR LF, can be asked for as a part of the lent file": line n + 1, with the table; from where its bytes stand and up to where, and the bytes
  pub bounds : (n : ℕ) → n < length lines → bounds_of file (table_after seal file table) (n + 1)
      ≡ says (record { from = total (take n lines); to = total (take n lines) + length (get_or lines n []) })
  pub numbered : (n : ℕ) → n < length lines → line_text file (bounds_of file (table_after seal file table) (n + 1)) ≡ get_or lines n []
  -- stepping from place 0 gives exactly the lines in their order, and then none
  pub stepping : Steps file 0 lines
  -- "the date, the I and J layouts", and the M layout: the date is read from line 2; the layouts from the lines that tell them, and where there is "no such line" they are empty
  pub date : ReadsValue date_said IsDateLine f.date (get_or lines 1 [])
  pub reads : Each (ReadsLine f.layouts) lines
  pub untold : (g : Family) → Each (λ l. get_or l 0 0 ≡ layout_letter g → ⊥) lines → layout_of g f.layouts ≡ empty_layout
  -- what is read of the layouts themselves
  pub layouts : (g : Family) → ReadsLayout g (layout_of g f.layouts)
  pub presence : ReadsPresence f.layouts.b
  pub declaration : ReadsDeclaration lines
