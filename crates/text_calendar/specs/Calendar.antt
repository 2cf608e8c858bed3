-- The date that is so many days after a date, by the calendar. A file has one date, and its fixes are counted in days from it; no document describes dates past the first
-- (docs/DECISIONS.md).
use Rattle.std.specs.Prelude.{ℕ, zero, suc, ◌+◌, ◌*◌, cond, ◌≡◌, ltb}
use Rattle.rules.specs.Fields.{days_of}
use Rattle.rules.specs.declared.Date.{Date}
use Rattle.text_calendar.specs.declared.Civil.{Civil}

-- the first day of a month
abbrev pub opening : ℕ → ℕ → Date
opening y m = record { day = 1; month = m; year = y }

-- the month behind a month: behind December stands January of the next year
abbrev pub month_behind : ℕ → ℕ
month_behind m = cond (ltb m 12) (m + 1) 1

abbrev pub year_behind : ℕ → ℕ → ℕ
year_behind y m = cond (ltb m 12) y (y + 1)

-- the next day of the month where the month has one, else the first of the month behind it
unfoldable pub next_day : Date → Date
next_day d =
    cond (ltb d.day (days_of d.year d.month))
    (record { day = d.day + 1; month = d.month; year = d.year })
    (opening (year_behind d.year d.month) (month_behind d.month))

-- so many days later: as often the next day
unfoldable pub days_after : ℕ → Date → Date
days_after zero d = d
days_after (suc n) d = next_day (days_after n d)

-- the date of an answer, whose year has more room than that of a date in a file
abbrev pub civil_told : Civil → Date
civil_told c = record { day = c.day; month = c.month; year = c.year }

-- a date as the number YYYYMMDD, by which dates are ordered
abbrev pub rank : Date → ℕ
rank d = d.year * 10000 + d.month * 100 + d.day

-- ---- the promise

abbrev pub DateAfter : Date → ℕ → Civil → Type 0
DateAfter d n r = civil_told r ≡ days_after n d
