-- A point of a track, worked out by hand; computed from the definitions. Assumes nothing.
use Prim.Native.Nat.{ℕ}
use Prim.Native.Char.{code}
use mathlib.Core.List.{◌++◌}
use mathlib.Core.Path.{◌≡◌, refl}
use lib.IntN.{ℤ, pos, negsuc}
use Rattle.rules.specs.Choice.{bytes}
use Rattle.rules.specs.Numbers.{digits_of}
use Rattle.rules.specs.Fields.{time_text, is_either, is_leap, days_of}
use Rattle.rules.specs.Fixes.{plain}
use Rattle.rules.specs.Degrees.{is_negated}
use Rattle.rules.specs.Listing.{decimal, decimal_in, lf}
use Rattle.rules.specs.declared.FineTime.{FineTime}
use Rattle.rules.specs.declared.FinePosition.{FinePosition}
use Rattle.rules.specs.declared.Fix.{Fix}
use Rattle.byte_tens.specs.Tens.{few_of}
use Rattle.text_dates.specs.Dates.{two_digits, date_shown}
use Rattle.text_decimals.specs.Decimals.{colons, behind_dot, extra_shown, seconds_behind, clock_behind, units_of, with_decimals, degrees_behind}
use Rattle.text_calendar.specs.Calendar.{next_day, days_after}
use Rattle.text_calendar.proofs.Examples.{on}
use Rattle.text_instant.specs.Instants.{instant_shown}
use Rattle.text_gpx.specs.Points.{place_shown, rise_shown, point_shown}

abbrev clock : ℕ → ℕ → FineTime
clock count decimals = record { count = count; decimals = decimals }

abbrev at : ℕ → ℕ → ℕ → FinePosition
at count letter decimals = record { count = count; letter = letter; decimals = decimals }

abbrev fix : FineTime → FinePosition → FinePosition → ℕ → ℤ → ℤ → Fix
fix t lat lon v p g = record { time = t; lat = lat; lon = lon; validity = v; pressure = record { metres = p }; gnss = record { metres = g } }

-- to unfold this is to unfold all that is computed here
unfoldable everything : Unit {0}
unfolding point_shown place_shown rise_shown instant_shown date_shown two_digits clock_behind seconds_behind extra_shown behind_dot colons time_text digits_of plain few_of degrees_behind is_negated is_either with_decimals units_of decimal decimal_in next_day days_after is_leap days_of bytes
everything = tt

-- half a second into the first second of a year, below the sea
pub new_year_point : point_shown (on 2023 12 31) 1 (fix (clock 5 1) (at 30900001234 (code "N") 4) (at 15000 (code "W") 0) (code "A") (pos 100) (negsuc 11)) ≡ bytes "<trkpt lat=\"51.5000020567\" lon=\"-0.250000\"><ele>-12</ele><time>2024-01-01T00:00:00.5Z</time></trkpt>" ++ lf
unfolding everything
new_year_point = refl
