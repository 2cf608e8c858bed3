-- A B line with three columns, of which one has a minus and one no number, and one with columns as long as a number may be, worked out by hand: what each look gives. And a line
-- whose reading is refused, with the entries of another. Computed. Assumes nothing.
use Rattle.std.specs.Prelude.{None}
use Prim.Native.Nat.{ℕ}
use Prim.Native.Char.{code}
use Prim.Native.String.{String}
use mathlib.Core.Bool.{true}
use mathlib.Core.List.{List, [], ◌∷◌}
use mathlib.Core.Path.{◌≡◌, refl}
use lib.IntN.{pos, neg_ℤ}
use lib.ListN.{length}
use Rattle.rules.specs.Choice.{bytes}
use Rattle.rules.specs.Files.{verdict}
use Rattle.rules.specs.Layouts.{empty_layout}
use Rattle.rules.specs.Looks.{look_said, look_text, look_number}
use Rattle.rules.specs.Reads.{reading, layout_said}
use Rattle.rules.specs.Refusals.{says, refuses, value_or}
use Rattle.rules.specs.declared.Family.TheVariants as family
use Rattle.rules.specs.declared.Fix.{Fix}
use Rattle.rules.specs.declared.Flight.{Flight}
use Rattle.rules.specs.declared.Layout.{Layout}
use Rattle.rules.specs.declared.Seal.TheVariants as seal
use Rattle.rules.proofs.Computed.{everything, file_of}
use Rattle.rules.proofs.Damaged.{five_lines, five_layout}

-- ---- a line

-- FXA is 012, ZZZ is -07, and YYY is A8
unfoldable pub three_columns : Layout
unfolding bytes
three_columns = value_or empty_layout (layout_said family.B (bytes "I033638FXA3941ZZZ4243YYY"))

unfoldable pub three_line : List ℕ
unfolding bytes
three_line = bytes "B1200005130000N00015000WA0010000120012-07A8"

-- 51 degrees 30 minutes are 3,090,000 thousandths of a minute, 15 minutes 15,000
abbrev pub its_fix : Fix
its_fix = record {
  time = record { count = 43200; decimals = 0 };
  lat = record { count = 3090000; letter = code "N"; decimals = 0 };
  lon = record { count = 15000; letter = code "W"; decimals = 0 };
  validity = code "A";
  pressure = record { metres = pos 100 };
  gnss = record { metres = pos 120 };
}

pub three_slots : length three_columns.entries ≡ 13
unfolding everything three_columns
three_slots = refl

pub three_read : reading family.B three_line three_columns ≡ says (record { value = its_fix; entries = three_columns })
unfolding everything three_line three_columns
three_read = refl

-- the text that the look for a code gives
abbrev pub text_of : String → List ℕ
unfolding bytes
text_of name = look_text three_line (look_said three_line three_columns (bytes name))

pub three_texts : (text_of "FXA" ≡ bytes "012") × (text_of "ZZZ" ≡ bytes "-07") × (text_of "YYY" ≡ bytes "A8") × (text_of "ENL" ≡ [])
unfolding everything three_line three_columns
three_texts = (refl, refl, refl, refl)

pub three_numbers : (look_number three_line three_columns (bytes "FXA") ≡ says (record { value = pos 12 })) × (look_number three_line three_columns (bytes "ZZZ") ≡ says (record { value = neg_ℤ (pos 7) }))
    × (look_number three_line three_columns (bytes "YYY") ≡ refuses 20 0 0) × (look_number three_line three_columns (bytes "ENL") ≡ refuses 19 0 0)
unfolding everything three_line three_columns
three_numbers = (refl, refl, refl, refl)

-- 18 digits, 19 digits, 18 digits with a minus, a minus alone: the first and the third are numbers
unfoldable pub long_columns : Layout
unfolding bytes
long_columns = value_or empty_layout (layout_said family.B (bytes "I043653ZZZ5472YYY7391XXX9292WWW"))

unfoldable pub long_line : List ℕ
unfolding bytes
long_line = bytes "B1200005130000N00015000WA00100001201234567890123456781234567890123456789-123456789012345678-"

pub long_read : reading family.B long_line long_columns ≡ says (record { value = its_fix; entries = long_columns })
unfolding everything long_line long_columns
long_read = refl

pub long_numbers : (look_number long_line long_columns (bytes "ZZZ") ≡ says (record { value = pos 123456789012345678 })) × (look_number long_line long_columns (bytes "YYY") ≡ refuses 20 0 0)
    × (look_number long_line long_columns (bytes "XXX") ≡ says (record { value = neg_ℤ (pos 123456789012345678) })) × (look_number long_line long_columns (bytes "WWW") ≡ refuses 20 0 0)
unfolding everything long_line long_columns
long_numbers = (refl, refl, refl, refl)

-- a line that is a byte short does not read, and with it the entries of the other line are no answer
pub no_reading : (reading family.B (bytes "B1200005130000N00015000WA0010000120012-07A") three_columns ≡ refuses 7 0 0) × (look_said (bytes "B1200005130000N00015000WA0010000120012-07A") three_columns (bytes "FXA") ≡ refuses 17 0 0)
unfolding everything three_columns
no_reading = (refl, refl)

-- ---- a file

abbrev pub five_said : Flight
five_said = record {
  date = record { day = 15; month = 7; year = 2024 };
  layouts = record { b = five_layout; k = empty_layout; n = empty_layout };
  lines = 5;
  counts = record { b = 1; k = 0; n = 0 };
  signed = true;
}

pub five_accepted : verdict seal.Strict five_lines None ≡ says five_said
unfolding everything file_of
five_accepted = refl

-- without an H line
pub no_date_lem : verdict seal.Strict (file_of ("AXYZ001" ∷ "GABC" ∷ [])) None ≡ refuses 6 2 1
unfolding everything file_of
no_date_lem = refl
