-- Dates worked out by hand; computed from the definitions. Assumes nothing.
use Prim.Native.Nat.{ℕ}
use mathlib.Core.Path.{◌≡◌, refl}
use Rattle.rules.specs.Fields.{is_leap, days_of}
use Rattle.rules.specs.declared.Date.{Date}
use Rattle.text_calendar.specs.Calendar.{next_day, days_after}

abbrev pub on : ℕ → ℕ → ℕ → Date
on y m d = record { day = d; month = m; year = y }

-- to unfold this is to unfold all that is computed here
unfoldable everything : Unit {0}
unfolding next_day days_after is_leap days_of
everything = tt

pub new_year : days_after 1 (on 2023 12 31) ≡ on 2024 1 1
unfolding everything
new_year = refl

pub leap_day : days_after 1 (on 2024 2 28) ≡ on 2024 2 29
unfolding everything
leap_day = refl

pub no_leap_day : days_after 1 (on 2023 2 28) ≡ on 2023 3 1
unfolding everything
no_leap_day = refl

-- 400 divides 2000; of 2100 only 100 does
pub leap_century : days_after 1 (on 2000 2 28) ≡ on 2000 2 29
unfolding everything
leap_century = refl

pub plain_century : days_after 1 (on 2100 2 28) ≡ on 2100 3 1
unfolding everything
plain_century = refl

pub leap_year : days_after 366 (on 2000 2 29) ≡ on 2001 3 1
unfolding everything
leap_year = refl

-- the first and the last year of a file
pub first_year : days_after 366 (on 1980 1 1) ≡ on 1981 1 1
unfolding everything
first_year = refl

pub last_year : days_after 2 (on 2079 12 30) ≡ on 2080 1 1
unfolding everything
last_year = refl
