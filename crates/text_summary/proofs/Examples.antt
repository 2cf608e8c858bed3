-- Lines worked out by hand; computed from the definitions. Assumes nothing.
use Prim.Native.Nat.{ℕ}
use mathlib.Core.List.{[], ◌∷◌}
use mathlib.Core.Path.{◌≡◌, refl}
use lib.IntN.{pos, negsuc}
use Rattle.rules.specs.Choice.{bytes}
use Rattle.rules.specs.Numbers.{digits_of}
use Rattle.rules.specs.Fields.{time_text, is_either}
use Rattle.rules.specs.Degrees.{is_negated}
use Rattle.rules.specs.Listing.{decimal, decimal_in}
use Rattle.rules.specs.declared.Date.{Date}
use Rattle.byte_tens.specs.Tens.{few_of}
use Rattle.text_dates.specs.Dates.{two_digits, date_shown}
use Rattle.text_decimals.specs.Decimals.{colons, behind_dot, shown_seconds, units_of, with_decimals, shown_degrees}
use Rattle.text_twelve.specs.Twelve.{lasting}
use Rattle.text_box.specs.Boxed.{point_shown, latitudes_shown, longitudes_shown, box_shown}
use Rattle.text_summary.specs.Outline.{day_shown, when_shown, lasting_shown, times_shown, heights_shown, flight_shown, outline_shown}

-- to unfold this is to unfold all that is computed here
unfoldable everything : Unit {0}
unfolding outline_shown date_shown two_digits flight_shown times_shown when_shown day_shown lasting lasting_shown heights_shown box_shown latitudes_shown longitudes_shown point_shown shown_seconds behind_dot colons time_text digits_of few_of shown_degrees is_negated is_either with_decimals units_of decimal decimal_in bytes
everything = tt

abbrev date : ℕ → ℕ → ℕ → Date
date y m d = record { year = y; month = m; day = d }

-- 3,090,000 thousandths of a minute are 51.5 degrees, 3,104,040 are 51.734, 15,000 a quarter of one, 6,720 are 0.112; from 43,200 to 50,590 seconds are 2 hours, 3 minutes and 10 seconds
pub usual_line :
    outline_shown (date 2024 7 15)
    (pos 7390 ∷ pos 0 ∷ pos 43200 ∷ pos 0 ∷ pos 50590 ∷ pos 1420 ∷ pos 310 ∷ pos 1 ∷ pos 3090000 ∷ pos 3104040 ∷ negsuc 14999 ∷ pos 6720 ∷ [])
    ≡ bytes "2024-07-15 12:00:00 14:03:10 2:03:10 1420 310 7390 51.500000 51.734000 -0.250000 0.112000"
unfolding everything
usual_line = refl

-- from the leap second, 86,400 of day 0, to five seconds past midnight of day 1, which is 5 seconds; below the sea; at the south pole, and no minus at 0
pub midnight_line :
    outline_shown (date 2016 12 31)
    (pos 2 ∷ pos 0 ∷ pos 86400 ∷ pos 1 ∷ pos 5 ∷ pos 12 ∷ negsuc 11 ∷ pos 1 ∷ negsuc 5399999 ∷ negsuc 0 ∷ pos 0 ∷ pos 10800000 ∷ [])
    ≡ bytes "2016-12-31 23:59:60 00:00:05+1 0:00:05 12 -12 2 -90.000000 -0.000017 0.000000 180.000000"
unfolding everything
midnight_line = refl

-- from 12:00:02 of day 1 to 13:00:01 of day 3: two days, 59 minutes and 59 seconds are 48 hours and these; all fixes marked V
pub days_line :
    outline_shown (date 1999 1 2) (pos 600 ∷ pos 1 ∷ pos 43202 ∷ pos 3 ∷ pos 46801 ∷ pos 99999 ∷ negsuc 9998 ∷ pos 0 ∷ pos 0 ∷ pos 0 ∷ pos 0 ∷ pos 0 ∷ [])
    ≡ bytes "1999-01-02 12:00:02+1 13:00:01+3 48:59:59 99999 -9999 600 - - - -"
unfolding everything
days_line = refl

-- no fix; and a list with no number
pub none_line : outline_shown (date 2024 7 15) (pos 0 ∷ pos 0 ∷ pos 0 ∷ pos 0 ∷ pos 0 ∷ pos 0 ∷ pos 0 ∷ pos 0 ∷ pos 0 ∷ pos 0 ∷ pos 0 ∷ pos 0 ∷ []) ≡ bytes "2024-07-15 - - - - - 0 - - - -"
unfolding everything
none_line = refl

pub bare_line : outline_shown (date 2024 7 15) [] ≡ bytes "2024-07-15 - - - - - 0 - - - -"
unfolding everything
bare_line = refl

-- numbers that no summary has: a day and a time below zero are 0, and a last fix before the first lasts no time
pub odd_line :
    outline_shown (date 2024 7 15) (negsuc 0 ∷ negsuc 6 ∷ pos 3 ∷ pos 0 ∷ negsuc 0 ∷ pos 0 ∷ pos 1 ∷ negsuc 1 ∷ pos 1 ∷ negsuc 1 ∷ pos 2 ∷ pos 0 ∷ [])
    ≡ bytes "2024-07-15 00:00:03 00:00:00 0:00:00 0 1 -1 0.000017 -0.000033 0.000033 0.000000"
unfolding everything
odd_line = refl
