-- For each promise of `rules`, in its order: two answers that meet it are the same, and so is what is lent, afterwards. Assumes nothing.
use Prim.Native.Nat.{ℕ}
use mathlib.Core.Bool.{Bool}
use mathlib.Core.List.{List}
use mathlib.Core.Path.{◌≡◌, sym, ◌∙◌}
use Rattle.rules.specs.Families.{first_start}
use Rattle.rules.specs.Refusals.{Said}
use Rattle.rules.specs.Layouts.{LayoutTold, allowed}
use Rattle.rules.specs.Files.{CheckedTold}
use Rattle.rules.specs.Writes.{fix_text, is_fix, extra_text, is_extra, layout_text, head_text, is_head, point_text, is_point}
use Rattle.rules.specs.Promises.{DigitsGiven, WholeGiven, DigitsPut, DigitTest, CodeTest, ValidTest, InvalidFound, CodesTest, ByteAt, EitherTest, TimeAt, DateAt, LatitudeAt, LongitudeAt, AltitudeAt, TimePut, DatePut, LatitudePut, LongitudePut, AltitudePut, DegreesGiven, ListedAt, AllowedTest, LengthGiven, PresenceGiven, ColumnTest, KindGiven, ColumnsChecked, ShapeChecked, RecorderChecked, DateLineChecked, HeaderChecked, LayoutChecked, HeadChecked, PointChecked, DifferentialChecked, EventChecked, SatellitesChecked, FixChecked, ExtraChecked, ColumnedChecked, FixGiven, ExtraGiven, EventGiven, SatellitesGiven, DateGiven, LayoutGiven, HeadGiven, HeadRest, PointGiven, PointRest, LookGiven, LookTextGiven, LookNumberGiven, FileChecked, FileJudged, LineGiven, LineTextGiven, Written, FixWritten, ExtraWritten, LayoutWritten, HeadWritten, PointWritten}
use Rattle.rules.specs.declared.Date.{Date}
use Rattle.rules.specs.declared.Position.{Position}
use Rattle.rules.specs.declared.FinePosition.{FinePosition}
use Rattle.rules.specs.declared.AtLimit.{AtLimit}
use Rattle.rules.specs.declared.Height.{Height}
use Rattle.rules.specs.declared.Layout.{Layout}
use Rattle.rules.specs.declared.Extra.{Extra}
use Rattle.rules.specs.declared.Family.{Family}
use Rattle.rules.specs.declared.Fix.{Fix}
use Rattle.rules.specs.declared.Head.{Head}
use Rattle.rules.specs.declared.Point.{Point}
use Rattle.rules.specs.declared.Flight.{Flight}
use Rattle.rules.specs.declared.Seal.{Seal}
use Rattle.rules_only.proofs.Told.{OneToOne, result_one, fix_reading_one, extra_reading_one}

-- ---- what is claimed

module _ {T : Type 0} where
  -- one answer at most meets the promise
  abbrev pub Only : (T → Type 0) → Type 0
  Only promise = (r r' : T) → promise r → promise r' → r ≡ r'

  pub same : {x : T} → Only (λ r. r ≡ x)
  same r r' e e' = e ∙ sym e'

module _ {T B : Type 0} where
  -- one answer, and one state of what is lent afterwards
  abbrev pub OnlyBoth : (T → B → Type 0) → Type 0
  OnlyBoth promise = (r r' : T) (after after' : B) → promise r after → promise r' after' → (r ≡ r') × (after ≡ after')

  -- two answers told the same are the same
  pub alike : {told : T → B} {x : B} → OneToOne told → Only (λ r. told r ≡ x)
  alike one r r' e e' = one r r' (e ∙ sym e')

-- ---- an answer with a value beside it

pub checked_only : {s : Said Flight} → Only (CheckedTold s)
checked_only r r' e e' =
    let answer : r.outcome ≡ r'.outcome = alike result_one r.outcome r'.outcome e.answer e'.answer in
    let flight : r.flight ≡ r'.flight = same r.flight r'.flight e.flight e'.flight in
    λ i. record { outcome = answer i; flight = flight i }

-- ---- digits and whole numbers

pub only_digits_given : (s : List ℕ) (at n : ℕ) → Only (DigitsGiven s at n)
only_digits_given s at n = same

pub only_whole_given : (t : List ℕ) → Only (WholeGiven t)
only_whole_given t = same

pub only_digits_put : (n v at : ℕ) (out : List ℕ) → Only (DigitsPut n v at out)
only_digits_put n v at out = same

-- ---- characters

pub only_digit_test : (b : ℕ) → Only (DigitTest b)
only_digit_test b = same

pub only_code_test : (b : ℕ) → Only (CodeTest b)
only_code_test b = same

pub only_valid_test : (in_h : Bool) (b : ℕ) → Only (ValidTest in_h b)
only_valid_test in_h b = same

pub only_invalid_found : (in_h : Bool) (l : List ℕ) → Only (InvalidFound in_h l)
only_invalid_found in_h l = same

pub only_codes_test : (l : List ℕ) (at n : ℕ) → Only (CodesTest l at n)
only_codes_test l at n = same

pub only_byte_at : (s : List ℕ) (at : ℕ) → Only (ByteAt s at)
only_byte_at s at = same

pub only_either_test : (x a b : ℕ) → Only (EitherTest x a b)
only_either_test x a b = same

-- ---- fields, read at a place and put at a place

pub only_time_at : (s : List ℕ) (at : ℕ) → Only (TimeAt s at)
only_time_at s at = same

pub only_date_at : (s : List ℕ) (at : ℕ) → Only (DateAt s at)
only_date_at s at = same

pub only_latitude_at : (s : List ℕ) (at : ℕ) → Only (LatitudeAt s at)
only_latitude_at s at = same

pub only_longitude_at : (s : List ℕ) (at : ℕ) → Only (LongitudeAt s at)
only_longitude_at s at = same

pub only_altitude_at : (s : List ℕ) (at : ℕ) → Only (AltitudeAt s at)
only_altitude_at s at = same

pub only_time_put : (t at : ℕ) (out : List ℕ) → Only (TimePut t at out)
only_time_put t at out = same

pub only_date_put : (d : Date) (at : ℕ) (out : List ℕ) → Only (DatePut d at out)
only_date_put d at out = same

pub only_latitude_put : (p : Position) (at : ℕ) (out : List ℕ) → Only (LatitudePut p at out)
only_latitude_put p at out = same

pub only_longitude_put : (p : Position) (at : ℕ) (out : List ℕ) → Only (LongitudePut p at out)
only_longitude_put p at out = same

pub only_altitude_put : (h : Height) (at : ℕ) (out : List ℕ) → Only (AltitudePut h at out)
only_altitude_put h at out = same

pub only_degrees_given : (lat lon : FinePosition) → Only (DegreesGiven lat lon)
only_degrees_given lat lon = alike result_one

-- ---- layouts

pub only_listed_at : (n : ℕ) → Only (ListedAt n)
only_listed_at n = same

pub only_allowed_test : (f : Family) (l : Layout) → Only (AllowedTest f l)
only_allowed_test f l = same

pub only_length_given : (f : Family) (l : Layout) → Only (LengthGiven f l)
only_length_given f l = alike result_one

pub only_presence_given : (l : Layout) → Only (PresenceGiven l)
only_presence_given l = alike result_one

pub only_column_test : (x : ℕ) (t : List ℕ) → Only (ColumnTest x t)
only_column_test x t = same

-- ---- lines: the checks of 7 to 13, of which a file's check is made

pub only_kind_given : (b : ℕ) → Only (KindGiven b)
only_kind_given b = same

pub only_shape_checked : (least most : ℕ) (in_h : Bool) (l : List ℕ) → Only (ShapeChecked least most in_h l)
only_shape_checked least most in_h l = alike result_one

pub only_columns_checked : (at : AtLimit) (l : List ℕ) (layout : Layout) → Only (ColumnsChecked at l layout)
only_columns_checked at l layout = alike result_one

pub only_recorder_checked : (l : List ℕ) → Only (RecorderChecked l)
only_recorder_checked l = alike result_one

pub only_date_line_checked : (l : List ℕ) → Only (DateLineChecked l)
only_date_line_checked l = alike result_one

pub only_header_checked : (l : List ℕ) → Only (HeaderChecked l)
only_header_checked l = alike result_one

pub only_layout_checked : (f : Family) (l : List ℕ) → Only (LayoutChecked f l)
only_layout_checked f l = alike result_one

pub only_head_checked : (l : List ℕ) → Only (HeadChecked l)
only_head_checked l = alike result_one

pub only_point_checked : (l : List ℕ) → Only (PointChecked l)
only_point_checked l = alike result_one

pub only_differential_checked : (l : List ℕ) → Only (DifferentialChecked l)
only_differential_checked l = alike result_one

pub only_event_checked : (l : List ℕ) → Only (EventChecked l)
only_event_checked l = alike result_one

pub only_satellites_checked : (l : List ℕ) → Only (SatellitesChecked l)
only_satellites_checked l = alike result_one

pub only_fix_checked : (l : List ℕ) (layout : Layout) → Only (FixChecked l layout)
only_fix_checked l layout = alike result_one

pub only_extra_checked : (l : List ℕ) (layout : Layout) → Only (ExtraChecked l layout)
only_extra_checked l layout = alike result_one

pub only_columned_checked : (f : Family) (l : List ℕ) (layout : Layout) → Only (ColumnedChecked f l layout)
only_columned_checked f l layout = alike result_one

-- ---- lines: the readers

pub only_fix_given : (l : List ℕ) (layout : Layout) → Only (FixGiven l layout)
only_fix_given l layout = alike fix_reading_one

pub only_extra_given : (x : Extra) (l : List ℕ) (layout : Layout) → Only (ExtraGiven x l layout)
only_extra_given x l layout = alike extra_reading_one

pub only_event_given : (l : List ℕ) → Only (EventGiven l)
only_event_given l = alike result_one

pub only_satellites_given : (l : List ℕ) → Only (SatellitesGiven l)
only_satellites_given l = alike result_one

pub only_date_given : (l : List ℕ) → Only (DateGiven l)
only_date_given l = alike result_one

pub only_layout_given : (f : Family) (l : List ℕ) → Only (LayoutGiven f l)
only_layout_given f l = alike result_one

pub only_head_given : (l : List ℕ) → Only (HeadGiven l)
only_head_given l = alike result_one

pub only_head_rest : (l : List ℕ) → Only (HeadRest l)
only_head_rest l = same

pub only_point_given : (l : List ℕ) → Only (PointGiven l)
only_point_given l = alike result_one

pub only_point_rest : (l : List ℕ) → Only (PointRest l)
only_point_rest l = same

-- ---- a column

pub only_look_given : (l : List ℕ) (es : Layout) (name : List ℕ) → Only (LookGiven l es name)
only_look_given l es name = alike result_one

pub only_look_text_given : (l : List ℕ) (es : Layout) (name : List ℕ) → Only (LookTextGiven l es name)
only_look_text_given l es name = same

pub only_look_number_given : (l : List ℕ) (es : Layout) (name : List ℕ) → Only (LookNumberGiven l es name)
only_look_number_given l es name = alike result_one

-- ---- files

pub only_file_checked : (seal : Seal) (file table : List ℕ) → OnlyBoth (FileChecked seal file table)
only_file_checked seal file table r r' after after' e e' = (checked_only r r' e.told e'.told, same after after' e.entries e'.entries)

pub only_file_judged : (seal : Seal) (file : List ℕ) → Only (FileJudged seal file)
only_file_judged seal file = checked_only

pub only_line_given : (file table : List ℕ) (n : ℕ) → Only (LineGiven file table n)
only_line_given file table n = alike result_one

pub only_line_text_given : (file table : List ℕ) (n : ℕ) → Only (LineTextGiven file table n)
only_line_text_given file table n = same

-- ---- writers

pub only_written : (good : Bool) (text : List ℕ) (place : ℕ) (out : List ℕ) → OnlyBoth (Written good text place out)
only_written good text place out r r' after after' e e' = (alike result_one r r' e.told e'.told, same after after' e.bytes e'.bytes)

pub only_fix_written : (f : Fix) (tail : List ℕ) (layout : Layout) (place : ℕ) (out : List ℕ) → OnlyBoth (FixWritten f tail layout place out)
only_fix_written f tail layout place out = only_written (is_fix f tail layout) (fix_text f tail) place out

pub only_extra_written : (x : Extra) (t : ℕ) (tail : List ℕ) (layout : Layout) (place : ℕ) (out : List ℕ) → OnlyBoth (ExtraWritten x t tail layout place out)
only_extra_written x t tail layout place out = only_written (is_extra x t tail layout) (extra_text x t tail) place out

pub only_layout_written : (f : Family) (l : Layout) (place : ℕ) (out : List ℕ) → OnlyBoth (LayoutWritten f l place out)
only_layout_written f l place out = only_written (allowed (first_start f) l) (layout_text f l) place out

pub only_head_written : (h : Head) (rest : List ℕ) (place : ℕ) (out : List ℕ) → OnlyBoth (HeadWritten h rest place out)
only_head_written h rest place out = only_written (is_head h rest) (head_text h rest) place out

pub only_point_written : (p : Point) (rest : List ℕ) (place : ℕ) (out : List ℕ) → OnlyBoth (PointWritten p rest place out)
only_point_written p rest place out = only_written (is_point p rest) (point_text p rest) place out
