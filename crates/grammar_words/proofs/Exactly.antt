-- What is claimed of the rules' table of listed codes, characters, limits and degrees: they are those of documents 01 and 02, whose words stand in specs/. The grammar of `grammar` has
-- these words. Its checks of a refusal have the rules' own tests, as is_valid, is_code, codes_at, width_fits, keeps_limit, is_either and time_at; what these mean, in the same words,
-- is said beside `refused_first` by the `.._meant` lines and `Fields-told`. Assumes nothing.
use Rattle.std.specs.Prelude.{Some}
use Prim.Native.Nat.{ℕ, ◌≤◌}
use Prim.Native.Char.{code}
use mathlib.Core.Bool.{Bool, true}
use mathlib.Core.List.{List}
use mathlib.Core.Logic.{◌↔◌, ◌⊎◌}
use mathlib.Core.Path.{◌≡◌, refl}
use lib.Ieee.{Float}
use Rattle.rules.specs.Choice.{first_of, bytes, Each}
use Rattle.rules.specs.Chars.{is_valid, is_digit, is_code, codes_at}
use Rattle.rules.specs.Listed.{code_text, is_code_word, listed, listed_number, width_fits, keeps_rule, tds, lad, lod, off_limit, keeps_limit}
use Rattle.rules.specs.Fields.{is_either}
use Rattle.rules.specs.Degrees.{angle, is_latitude, is_longitude, is_fine_latitude, is_fine_longitude}
use Rattle.rules.specs.Lines.{at_limit}
use Rattle.rules.specs.Limits.{is_time, is_altitude, good_fix_fields}
use Rattle.rules.specs.Fixes.{plain, plain_position, fields_of}
use Rattle.rules.specs.Families.{first_start, line_letter, layout_letter}
use Rattle.rules.specs.Layouts.{empty_layout, line_length}
use Rattle.rules.specs.declared.Extra.{Extra}
use Rattle.rules.specs.declared.Extra.TheVariants as extra
use Rattle.rules.specs.declared.Family.TheVariants as family
use Rattle.rules.specs.declared.AtLimit.{AtLimit}
use Rattle.rules.specs.declared.Position.{Position}
use Rattle.rules.specs.declared.FinePosition.{FinePosition}
use Rattle.rules.specs.declared.Height.{Height}
use Rattle.rules.specs.declared.FixFields.{FixFields}
use Rattle.rules.specs.declared.Fix.{Fix}
use Rattle.grammar_words.specs.Characters.{IsValid, IsDigit, IsCode, CodesAt}
use Rattle.grammar_words.specs.Codes.{rows, RowSays, Holds, SameRows}
use Rattle.grammar_words.specs.Finer.{IsPlain, IsFineLatitude, IsFineLongitude, IsAngle, OnlyZeros, Zeros, AtLatitude, AtLongitude}
use Rattle.grammar_words.specs.Values.{IsTime, IsLatitude, IsLongitude, IsAltitude, IsFixFields}
use Rattle.grammar_words.proofs.Characters as characters
use Rattle.grammar_words.proofs.Codes as codes
use Rattle.grammar_words.proofs.Values as values
use Rattle.grammar_words.proofs.Finer as finer

-- ---- characters

pub valid_exactly : (in_h : Bool) (b : ℕ) → (is_valid in_h b ≡ true) ↔ IsValid in_h b
valid_exactly = characters.valid_exactly

pub digit_exactly : (b : ℕ) → (is_digit b ≡ true) ↔ IsDigit b
digit_exactly = characters.digit_exactly

pub code_exactly : (b : ℕ) → (is_code b ≡ true) ↔ IsCode b
code_exactly = characters.code_exactly

-- so many of them in a line, and the three of a layout's code
pub codes_exactly : (l : List ℕ) (at n : ℕ) → (codes_at l at n ≡ true) ↔ CodesAt l at n
codes_exactly = characters.codes_exactly

pub word_exactly : (x : ℕ) → (is_code_word x ≡ true) ↔ Each IsCode (code_text x)
word_exactly = characters.word_exactly

-- ---- the listed codes

-- row by row
pub listed_exactly : SameRows listed rows
listed_exactly = codes.listed_exactly

-- "12 WIDTH: listed code, wrong width", and "13 COLUMN: listed column against its rule"
pub width_exactly : (x w : ℕ) → (width_fits x w ≡ true) ↔ RowSays x (λ p. (p.least ≤ w) × (w ≤ p.most))
width_exactly = codes.width_exactly

pub rule_exactly : (x : ℕ) (t : List ℕ) → (keeps_rule x t ≡ true) ↔ RowSays x (λ p. Holds p.name t)
rule_exactly = codes.rule_exactly

-- "LAD or LOD digits other than zeros break their column's rule where the plain count is already at its limit."
pub limit_exactly : (at : AtLimit) (AtLat AtLon : Type 0) → (at.lat ≡ true) ↔ AtLat → (at.lon ≡ true) ↔ AtLon → (x : ℕ) (t : List ℕ)
    → (keeps_limit at x t ≡ true) ↔ (RowSays x (λ p. Holds p.name t) × (OnlyZeros AtLat AtLon (code_text x) → Zeros t))
limit_exactly = finer.limit_exactly

-- of a B line by its fields; a K or an N line has no coordinates
pub at_limit_exactly : (f : FixFields) → (((at_limit f).lat ≡ true) ↔ AtLatitude f) × (((at_limit f).lon ≡ true) ↔ AtLongitude f)
at_limit_exactly = finer.at_limit_exactly

pub off_limit_exactly : ((off_limit.lat ≡ true) ↔ ⊥) × ((off_limit.lon ≡ true) ↔ ⊥)
off_limit_exactly = finer.off_limit_exactly

-- the codes of finer digits: of a time, a latitude and a longitude, and their numbers in the table
pub finer_exactly : (code_text tds ≡ bytes "TDS") × (code_text lad ≡ bytes "LAD") × (code_text lod ≡ bytes "LOD")
unfolding bytes
finer_exactly = (refl, refl, refl)

pub finer_numbered : (listed_number tds ≡ Some 10) × (listed_number lad ≡ Some 11) × (listed_number lod ≡ Some 12)
unfolding listed_number first_of listed bytes
finer_numbered = (refl, refl, refl)

-- ---- how far a value goes

pub time_exactly : (t : ℕ) → (is_time t ≡ true) ↔ IsTime t
time_exactly = values.time_exactly

pub latitude_exactly : (p : Position) → (is_latitude p ≡ true) ↔ IsLatitude p
latitude_exactly = values.latitude_exactly

pub longitude_exactly : (p : Position) → (is_longitude p ≡ true) ↔ IsLongitude p
longitude_exactly = values.longitude_exactly

pub altitude_exactly : (h : Height) → (is_altitude h ≡ true) ↔ IsAltitude h
altitude_exactly = values.altitude_exactly

pub either_exactly : (x a b : ℕ) → (is_either x a b ≡ true) ↔ ((x ≡ a) ⊎ (x ≡ b))
either_exactly = values.either_exactly

pub fix_exactly : (f : FixFields) → (good_fix_fields f ≡ true) ↔ IsFixFields f
fix_exactly = values.fix_exactly

-- "the count without the extra digits"
pub plain_exactly : (count decimals old : ℕ) → (plain count decimals ≡ old) ↔ IsPlain count decimals old
plain_exactly = finer.plain_exactly

-- a fix has what its line spells, field by field: its counts plain, and the rest as it is
pub fix_fields_exactly : (f : Fix)
    → ((fields_of f).time ≡ plain f.time.count f.time.decimals)
    × ((fields_of f).lat.count ≡ plain f.lat.count f.lat.decimals)
    × ((fields_of f).lat.letter ≡ f.lat.letter)
    × ((fields_of f).lon.count ≡ plain f.lon.count f.lon.decimals)
    × ((fields_of f).lon.letter ≡ f.lon.letter)
    × ((fields_of f).validity ≡ f.validity)
    × ((fields_of f).pressure ≡ f.pressure)
    × ((fields_of f).gnss ≡ f.gnss)
unfolding fields_of plain_position
fix_fields_exactly f = (refl, refl, refl, refl, refl, refl, refl, refl)

-- ---- degrees for the map

pub fine_latitude_exactly : (p : FinePosition) → (is_fine_latitude p ≡ true) ↔ IsFineLatitude p
fine_latitude_exactly = finer.fine_latitude_exactly

pub fine_longitude_exactly : (p : FinePosition) → (is_fine_longitude p ≡ true) ↔ IsFineLongitude p
fine_longitude_exactly = finer.fine_longitude_exactly

pub angle_exactly : (p : FinePosition) (x : Float) → (angle p ≡ x) ↔ IsAngle p x
angle_exactly = finer.angle_exactly

-- ---- the three families of lines with columns

-- "The first entry starts at 36 (I) or 8 (J)"; M as J
pub starts_exactly : (first_start family.B ≡ 36) × ((x : Extra) → first_start (family.Extra x) ≡ 8)
starts_exactly = (refl, λ x. refl)

-- B lines with the I line, K lines with the J line, N lines with the M line
pub letters_exactly : (line_letter family.B ≡ code "B") × (layout_letter family.B ≡ code "I") × (line_letter (family.Extra extra.K) ≡ code "K") × (layout_letter (family.Extra extra.K) ≡ code "J") × (line_letter (family.Extra extra.N) ≡ code "N") × (layout_letter (family.Extra extra.N) ≡ code "M")
letters_exactly = (refl, refl, refl, refl, refl, refl)

-- "with NN 00, or no such line, B has 35 and K has 7"; N as K
pub bare_exactly : (line_length (first_start family.B) empty_layout ≡ 35) × ((x : Extra) → line_length (first_start (family.Extra x)) empty_layout ≡ 7)
unfolding line_length
bare_exactly = (refl, λ x. refl)
