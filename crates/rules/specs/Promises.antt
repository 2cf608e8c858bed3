-- The promise of every public function whose answer type stands in `rules`, by name (a crate with an answer of its own names its promise in its specs/). Each is an
-- equation between the answer, in the paper's terms, and what the rules say of the inputs; for what is lent `&mut`, also between the bytes or entries afterwards and those
-- lent. A function's `ensures` cites its promise, and so does the law that no second answer meets it.
use Rattle.rules.specs.declared.Bounds.{Bounds}
use Rattle.rules.specs.declared.Span.{Span}
use Rattle.rules.specs.declared.FixFields.{FixFields}
use Rattle.rules.specs.declared.Presence.{Presence}
use Rattle.rules.specs.declared.Degrees.{Degrees}
use Rattle.rules.specs.declared.Signed.{Signed}
use Rattle.rules.specs.declared.Refusal.{Refusal}
use Rattle.std.specs.Prelude.{ℕ, Bool, List, ◌≡◌, length, get_or, None, Option, Result, Some, ⊤}
use Rattle.rules.specs.Families.{first_start}
use Rattle.rules.specs.Refusals.{result_told}
use Rattle.rules.specs.Chars.{is_valid, first_invalid, is_digit, is_code, codes_at}
use Rattle.rules.specs.Numbers.{number_at, whole_of, digits_of}
use Rattle.rules.specs.Fields.{is_either, time_at, time_text, date_at, date_text, latitude_at, longitude_at, latitude_text, longitude_text, altitude_at, altitude_text}
use Rattle.rules.specs.Degrees.{degrees_of}
use Rattle.rules.specs.Listed.{listed, unlisted, keeps_rule}
use Rattle.rules.specs.Layouts.{LayoutTold, allowed, length_said, presence_said, columns}
use Rattle.rules.specs.Lines.{kind_of, a_line, date_line, h_line, layout_line, head_line, point_line, d_line, e_line, f_line, b_line, extra_line, columned_line, shaped}
use Rattle.rules.specs.Split.{bounds_of, line_text}
use Rattle.rules.specs.Files.{CheckedTold, verdict, table_after}
use Rattle.rules.specs.Reads.{reading, answered, fix_reading_told, extra_reading_told, event_said, satellites_said, date_said, layout_said, head_said, head_rest, point_said, point_rest}
use Rattle.rules.specs.Looks.{look_said, look_text, look_number}
use Rattle.rules.specs.Writes.{written, out_after, put_at, fix_text, is_fix, extra_text, is_extra, layout_text, head_text, is_head, point_text, is_point}
use Rattle.rules.specs.declared.Date.{Date}
use Rattle.rules.specs.declared.Position.{Position}
use Rattle.rules.specs.declared.FinePosition.{FinePosition}
use Rattle.rules.specs.declared.Height.{Height}
use Rattle.rules.specs.declared.AtLimit.{AtLimit}
use Rattle.rules.specs.declared.Listed.{Listed}
use Rattle.rules.specs.declared.Layout.{Layout}
use Rattle.rules.specs.declared.Extra.{Extra}
use Rattle.rules.specs.declared.Family.{Family}
use Rattle.rules.specs.declared.Family.TheVariants as family
use Rattle.rules.specs.declared.Fix.{Fix}
use Rattle.rules.specs.declared.FixReading.{FixReading}
use Rattle.rules.specs.declared.ExtraReading.{ExtraReading}
use Rattle.rules.specs.declared.Head.{Head}
use Rattle.rules.specs.declared.Point.{Point}
use Rattle.rules.specs.declared.Kind.{Kind}
use Rattle.rules.specs.declared.Flight.{Flight}
use Rattle.rules.specs.declared.Checked.{Checked}
use Rattle.rules.specs.declared.Seal.{Seal}

-- ---- digits and whole numbers

abbrev pub DigitsGiven : List ℕ → ℕ → ℕ → Option ℕ → Type 0
DigitsGiven s at n r = r ≡ number_at s at n

abbrev pub WholeGiven : List ℕ → Option Signed → Type 0
WholeGiven t r = r ≡ whole_of t

abbrev pub DigitsPut : ℕ → ℕ → ℕ → List ℕ → List ℕ → Type 0
DigitsPut n v at out after = after ≡ put_at out at (digits_of n v)

-- ---- characters

abbrev pub DigitTest : ℕ → Bool → Type 0
DigitTest b r = r ≡ is_digit b

abbrev pub CodeTest : ℕ → Bool → Type 0
CodeTest b r = r ≡ is_code b

abbrev pub ValidTest : Bool → ℕ → Bool → Type 0
ValidTest in_h b r = r ≡ is_valid in_h b

abbrev pub InvalidFound : Bool → List ℕ → Option ℕ → Type 0
InvalidFound in_h l r = r ≡ first_invalid in_h l

abbrev pub CodesTest : List ℕ → ℕ → ℕ → Bool → Type 0
CodesTest l at n r = r ≡ codes_at l at n

-- the byte behind `at` others, 0 past the end
abbrev pub ByteAt : List ℕ → ℕ → ℕ → Type 0
ByteAt s at r = r ≡ get_or s at 0

abbrev pub EitherTest : ℕ → ℕ → ℕ → Bool → Type 0
EitherTest x a b r = r ≡ is_either x a b

-- ---- fields, read at a place and put at a place

abbrev pub TimeAt : List ℕ → ℕ → Option ℕ → Type 0
TimeAt s at r = r ≡ time_at s at

abbrev pub DateAt : List ℕ → ℕ → Option Date → Type 0
DateAt s at r = r ≡ date_at s at

abbrev pub LatitudeAt : List ℕ → ℕ → Option Position → Type 0
LatitudeAt s at r = r ≡ latitude_at s at

abbrev pub LongitudeAt : List ℕ → ℕ → Option Position → Type 0
LongitudeAt s at r = r ≡ longitude_at s at

abbrev pub AltitudeAt : List ℕ → ℕ → Option Height → Type 0
AltitudeAt s at r = r ≡ altitude_at s at

abbrev pub TimePut : ℕ → ℕ → List ℕ → List ℕ → Type 0
TimePut t at out after = after ≡ put_at out at (time_text t)

abbrev pub DatePut : Date → ℕ → List ℕ → List ℕ → Type 0
DatePut d at out after = after ≡ put_at out at (date_text d)

abbrev pub LatitudePut : Position → ℕ → List ℕ → List ℕ → Type 0
LatitudePut p at out after = after ≡ put_at out at (latitude_text p)

abbrev pub LongitudePut : Position → ℕ → List ℕ → List ℕ → Type 0
LongitudePut p at out after = after ≡ put_at out at (longitude_text p)

abbrev pub AltitudePut : Height → ℕ → List ℕ → List ℕ → Type 0
AltitudePut h at out after = after ≡ put_at out at (altitude_text h)

abbrev pub DegreesGiven : FinePosition → FinePosition → Result Degrees Refusal → Type 0
DegreesGiven lat lon r = result_told r ≡ degrees_of lat lon

-- ---- layouts

abbrev pub ListedAt : ℕ → Listed → Type 0
ListedAt n r = r ≡ get_or listed n unlisted

abbrev pub AllowedTest : Family → Layout → Bool → Type 0
AllowedTest f l r = r ≡ allowed (first_start f) l

abbrev pub LengthGiven : Family → Layout → Result ℕ Refusal → Type 0
LengthGiven f l r = result_told r ≡ length_said f l

abbrev pub PresenceGiven : Layout → Result Presence Refusal → Type 0
PresenceGiven l r = result_told r ≡ presence_said l

abbrev pub ColumnTest : ℕ → List ℕ → Bool → Type 0
ColumnTest x t r = r ≡ keeps_rule x t

abbrev pub ColumnsChecked : AtLimit → List ℕ → Layout → Result ⊤ Refusal → Type 0
ColumnsChecked at l layout r = result_told r ≡ columns at l layout

-- ---- lines: the checks of 7 to 13, of which a file's check is made

abbrev pub KindGiven : ℕ → Kind → Type 0
KindGiven b r = r ≡ kind_of b

abbrev pub ShapeChecked : ℕ → ℕ → Bool → List ℕ → Result ⊤ Refusal → Type 0
ShapeChecked least most in_h l r = result_told r ≡ shaped least most in_h l

abbrev pub RecorderChecked : List ℕ → Result ⊤ Refusal → Type 0
RecorderChecked l r = result_told r ≡ a_line l

abbrev pub DateLineChecked : List ℕ → Result Date Refusal → Type 0
DateLineChecked l r = result_told r ≡ date_line l

abbrev pub HeaderChecked : List ℕ → Result ⊤ Refusal → Type 0
HeaderChecked l r = result_told r ≡ h_line l

abbrev pub LayoutChecked : Family → List ℕ → Result Layout Refusal → Type 0
LayoutChecked f l r = LayoutTold (layout_line (first_start f) l) r

abbrev pub HeadChecked : List ℕ → Result Head Refusal → Type 0
HeadChecked l r = result_told r ≡ head_line l

abbrev pub PointChecked : List ℕ → Result Point Refusal → Type 0
PointChecked l r = result_told r ≡ point_line l

abbrev pub DifferentialChecked : List ℕ → Result ⊤ Refusal → Type 0
DifferentialChecked l r = result_told r ≡ d_line l

abbrev pub EventChecked : List ℕ → Result ℕ Refusal → Type 0
EventChecked l r = result_told r ≡ e_line l

abbrev pub SatellitesChecked : List ℕ → Result ℕ Refusal → Type 0
SatellitesChecked l r = result_told r ≡ f_line l

abbrev pub FixChecked : List ℕ → Layout → Result FixFields Refusal → Type 0
FixChecked l layout r = result_told r ≡ b_line layout l

abbrev pub ExtraChecked : List ℕ → Layout → Result ℕ Refusal → Type 0
ExtraChecked l layout r = result_told r ≡ extra_line layout l

abbrev pub ColumnedChecked : Family → List ℕ → Layout → Result ℕ Refusal → Type 0
ColumnedChecked f l layout r = result_told r ≡ columned_line f layout l

-- ---- lines: the readers

abbrev pub FixGiven : List ℕ → Layout → Result FixReading Refusal → Type 0
FixGiven l layout r = fix_reading_told r ≡ reading family.B l layout

abbrev pub ExtraGiven : Extra → List ℕ → Layout → Result ExtraReading Refusal → Type 0
ExtraGiven e l layout r = extra_reading_told r ≡ reading (family.Extra e) l layout

abbrev pub EventGiven : List ℕ → Result ℕ Refusal → Type 0
EventGiven l r = result_told r ≡ event_said l

abbrev pub SatellitesGiven : List ℕ → Result ℕ Refusal → Type 0
SatellitesGiven l r = result_told r ≡ satellites_said l

abbrev pub DateGiven : List ℕ → Result Date Refusal → Type 0
DateGiven l r = result_told r ≡ date_said l

abbrev pub LayoutGiven : Family → List ℕ → Result Layout Refusal → Type 0
LayoutGiven f l r = LayoutTold (layout_said f l) r

abbrev pub HeadGiven : List ℕ → Result Head Refusal → Type 0
HeadGiven l r = result_told r ≡ head_said l

abbrev pub HeadRest : List ℕ → List ℕ → Type 0
HeadRest l r = r ≡ head_rest l (head_said l)

abbrev pub PointGiven : List ℕ → Result Point Refusal → Type 0
PointGiven l r = result_told r ≡ point_said l

abbrev pub PointRest : List ℕ → List ℕ → Type 0
PointRest l r = r ≡ point_rest l (point_said l)

-- ---- a column: the look into the answer of a reading

abbrev pub LookGiven : List ℕ → Layout → List ℕ → Result Span Refusal → Type 0
LookGiven l es name r = result_told r ≡ look_said l es name

abbrev pub LookTextGiven : List ℕ → Layout → List ℕ → List ℕ → Type 0
LookTextGiven l es name r = r ≡ look_text l (look_said l es name)

abbrev pub LookNumberGiven : List ℕ → Layout → List ℕ → Result Signed Refusal → Type 0
LookNumberGiven l es name r = result_told r ≡ look_number l es name

-- ---- files

-- the answer on the file, and the lent table afterwards
pub record FileChecked (seal : Seal) (file table : List ℕ) (r : Checked) (after : List ℕ) : Type 0 where
  pub told : CheckedTold (verdict seal file (Some (length table))) r
  pub entries : after ≡ table_after seal file table

-- the answer where no table is lent
abbrev pub FileJudged : Seal → List ℕ → Checked → Type 0
FileJudged seal file r = CheckedTold (verdict seal file None) r

abbrev pub LineGiven : List ℕ → List ℕ → ℕ → Result Bounds Refusal → Type 0
LineGiven file table n r = result_told r ≡ bounds_of file table n

abbrev pub LineTextGiven : List ℕ → List ℕ → ℕ → List ℕ → Type 0
LineTextGiven file table n r = r ≡ line_text file (bounds_of file table n)

-- ---- writers

-- the answer of a writer of a text, which is good or not, and the lent output afterwards
pub record Written (good : Bool) (text : List ℕ) (place : ℕ) (out : List ℕ) (r : Result ℕ Refusal) (after : List ℕ) : Type 0 where
  pub told : result_told r ≡ written good text place out
  pub bytes : after ≡ out_after (written good text place out) text place out

abbrev pub FixWritten : Fix → List ℕ → Layout → ℕ → List ℕ → Result ℕ Refusal → List ℕ → Type 0
FixWritten f tail layout place out r after = Written (is_fix f tail layout) (fix_text f tail) place out r after

abbrev pub ExtraWritten : Extra → ℕ → List ℕ → Layout → ℕ → List ℕ → Result ℕ Refusal → List ℕ → Type 0
ExtraWritten e t tail layout place out r after = Written (is_extra e t tail layout) (extra_text e t tail) place out r after

abbrev pub LayoutWritten : Family → Layout → ℕ → List ℕ → Result ℕ Refusal → List ℕ → Type 0
LayoutWritten f l place out r after = Written (allowed (first_start f) l) (layout_text f l) place out r after

abbrev pub HeadWritten : Head → List ℕ → ℕ → List ℕ → Result ℕ Refusal → List ℕ → Type 0
HeadWritten h rest place out r after = Written (is_head h rest) (head_text h rest) place out r after

abbrev pub PointWritten : Point → List ℕ → ℕ → List ℕ → Result ℕ Refusal → List ℕ → Type 0
PointWritten p rest place out r after = Written (is_point p rest) (point_text p rest) place out r after
