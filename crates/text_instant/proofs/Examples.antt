-- Moments worked out by hand; computed from the definitions. Assumes nothing.
use Prim.Native.Nat.{ℕ}
use mathlib.Core.Path.{◌≡◌, refl}
use Rattle.rules.specs.Choice.{bytes}
use Rattle.rules.specs.Numbers.{digits_of}
use Rattle.rules.specs.Fields.{time_text, is_leap, days_of}
use Rattle.rules.specs.Fixes.{plain}
use Rattle.rules.specs.Listing.{decimal, decimal_in}
use Rattle.rules.specs.declared.FineTime.{FineTime}
use Rattle.byte_tens.specs.Tens.{few_of}
use Rattle.text_dates.specs.Dates.{two_digits, date_shown}
use Rattle.text_decimals.specs.Decimals.{colons, behind_dot, extra_shown, seconds_behind, clock_behind}
use Rattle.text_calendar.specs.Calendar.{next_day, days_after}
use Rattle.text_calendar.proofs.Examples.{on}
use Rattle.text_instant.specs.Instants.{instant_shown, moment_of}

abbrev clock : ℕ → ℕ → FineTime
clock count decimals = record { count = count; decimals = decimals }

-- to unfold this is to unfold all that is computed here
unfoldable everything : Unit {0}
unfolding instant_shown date_shown two_digits clock_behind seconds_behind extra_shown behind_dot colons time_text digits_of plain few_of decimal decimal_in next_day days_after is_leap days_of bytes
everything = tt

-- half a second into the leap second that ends a year
pub leap_second : moment_of (on 2023 12 31) 0 (clock 864005 1) ≡ bytes "2023-12-31T23:59:60.5Z"
unfolding everything
leap_second = refl

-- the first second of the day after it
pub new_year : moment_of (on 2023 12 31) 1 (clock 0 0) ≡ bytes "2024-01-01T00:00:00Z"
unfolding everything
new_year = refl

pub leap_day : moment_of (on 2024 2 28) 1 (clock 43200007 3) ≡ bytes "2024-02-29T12:00:00.007Z"
unfolding everything
leap_day = refl
