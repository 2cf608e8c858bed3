-- Lines of a track, worked out by hand; computed from the definitions. Assumes nothing.
use Prim.Native.Nat.{ℕ}
use Prim.Native.Char.{code}
use Prim.Native.String.{String}
use mathlib.Core.List.{List, ◌++◌}
use mathlib.Core.Path.{◌≡◌, refl}
use lib.IntN.{ℤ, pos, negsuc}
use Rattle.rules.specs.Choice.{bytes}
use Rattle.rules.specs.Numbers.{digits_of}
use Rattle.rules.specs.Fields.{time_text, is_either}
use Rattle.rules.specs.Fixes.{plain}
use Rattle.rules.specs.Degrees.{is_negated}
use Rattle.rules.specs.Listing.{decimal, decimal_in, lf}
use Rattle.rules.specs.declared.FineTime.{FineTime}
use Rattle.rules.specs.declared.FinePosition.{FinePosition}
use Rattle.rules.specs.declared.Fix.{Fix}
use Rattle.byte_tens.specs.Tens.{few_of}
use Rattle.text_decimals.specs.Decimals.{colons, behind_dot, extra_shown, shown_seconds, shown_clock, units_of, with_decimals, shown_degrees}
use Rattle.text_track.specs.Trail.{moment_shown, heights_shown, record_shown}

abbrev pub clock : ℕ → ℕ → FineTime
clock count decimals = record { count = count; decimals = decimals }

abbrev pub at : ℕ → ℕ → ℕ → FinePosition
at count letter decimals = record { count = count; letter = letter; decimals = decimals }

abbrev pub fix : FineTime → FinePosition → FinePosition → ℕ → ℤ → ℤ → Fix
fix t lat lon v p g = record { time = t; lat = lat; lon = lon; validity = v; pressure = record { metres = p }; gnss = record { metres = g } }

-- to unfold this is to unfold all that is computed here
unfoldable everything : Unit {0}
unfolding record_shown moment_shown shown_clock shown_seconds extra_shown behind_dot colons time_text digits_of plain few_of shown_degrees is_negated is_either with_decimals units_of decimal decimal_in heights_shown bytes
everything = tt

abbrev pub line : String → List ℕ
unfolding bytes
line s = bytes s ++ lf

-- the fix of document 01's listing: 3,090,000 thousandths of a minute are 51.5 degrees, 15,000 are a quarter of one
pub usual_line : record_shown 4 0 (fix (clock 43200 0) (at 3090000 (code "N") 0) (at 15000 (code "W") 0) (code "A") (pos 100) (pos 120)) ≡ line "4 0 12:00:00 51.500000 -0.250000 A 100 120"
unfolding everything
usual_line = refl

-- the leap second, at 90 degrees south and 180 east, below the sea
pub leap_line : record_shown 16000000 1 (fix (clock 86400 0) (at 5400000 (code "S") 0) (at 10800000 (code "E") 0) (code "V") (negsuc 11) (pos 0)) ≡ line "16000000 1 23:59:60 -90.000000 180.000000 V -12 0"
unfolding everything
leap_line = refl

-- a count of 0 has no minus; one thousandth of a minute is 16.67 millionths of a degree, two are 33.33
pub zero_line : record_shown 5 12 (fix (clock 3661 0) (at 0 (code "S") 0) (at 0 (code "W") 0) (code "A") (pos 99999) (negsuc 9998)) ≡ line "5 12 01:01:01 0.000000 0.000000 A 99999 -9999"
unfolding everything
zero_line = refl

pub nearest_line : record_shown 6 0 (fix (clock 59 0) (at 1 (code "S") 0) (at 59999 (code "E") 0) (code "A") (pos 1) (pos 2)) ≡ line "6 0 00:00:59 -0.000017 0.999983 A 1 2"
unfolding everything
nearest_line = refl

pub third_line : record_shown 7 0 (fix (clock 0 0) (at 2 (code "N") 0) (at 60001 (code "W") 0) (code "A") (pos 0) (pos 10)) ≡ line "7 0 00:00:00 0.000033 -1.000017 A 0 10"
unfolding everything
third_line = refl

-- decimals as the file has them: half a second; 51 degrees and 30.0001234 minutes are 51.50000205667 degrees; 15.0000009 minutes are 0.250000015, and 4 and 4 decimals more than six are shown
pub finer_line : record_shown 5 0 (fix (clock 432005 1) (at 30900001234 (code "N") 4) (at 150000009 (code "W") 4) (code "A") (pos 100) (pos 120)) ≡ line "5 0 12:00:00.5 51.5000020567 -0.2500000150 A 100 120"
unfolding everything
finer_line = refl

-- the last moment of a leap second; one decimal more on the one side and none on the other; a last digit of 0 is shown
pub last_line : record_shown 8 0 (fix (clock 86400999 3) (at 10 (code "S") 1) (at 10799999 (code "E") 0) (code "A") (pos 0) (pos 0)) ≡ line "8 0 23:59:60.999 -0.0000167 179.999983 A 0 0"
unfolding everything
last_line = refl
