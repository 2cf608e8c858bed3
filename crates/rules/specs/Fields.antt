-- Document 01, 'Fields': time, date, position and altitude, each read at a place of a line; and the text of each.
use Rattle.std.specs.Prelude.{ℕ, ◌+◌, ◌*◌, ◌/◌, ◌%◌, Bool, true, false, ◌&&◌, ◌||◌, cond, List, [], ◌∷◌, ◌++◌, eqb, leb, ℤ, pos, negsuc, neg_ℤ, get_or, None, Option, Some}
use Prim.Native.Char.{code}
use Rattle.rules.specs.Choice.{given, need, on}
use Rattle.rules.specs.Numbers.{number_at, digits_of, pairs_text}
use Rattle.rules.specs.declared.Date.{Date}
use Rattle.rules.specs.declared.Position.{Position}
use Rattle.rules.specs.declared.Height.{Height}

-- "seconds are 00 to 59, and also 60 when hours and minutes are 23 and 59" (document 02)
unfoldable pub is_second : ℕ → ℕ → ℕ → Bool
is_second h m x = leb x 59 || (eqb x 60 && eqb h 23 && eqb m 59)

-- "Time: HHMMSS, 00 to 23, 00 to 59," seconds as above, "read as seconds of the day"; 235960 "reads as 86,400"
unfoldable pub time_at : List ℕ → ℕ → Option ℕ
time_at s at =
    given (number_at s at 2) None λ h.
    given (number_at s (at + 2) 2) None λ m.
    given (number_at s (at + 4) 2) None λ x.
    need (leb h 23) None λ _.
    need (leb m 59) None λ _.
    need (is_second h m x) None λ _.
    Some (h * 3600 + m * 60 + x)

-- HHMMSS; "Writers accept 86,400 and write 235960." (document 02)
unfoldable pub time_text : ℕ → List ℕ
time_text t = cond (eqb t 86400) (pairs_text 23 59 60) (pairs_text (t / 3600) (t / 60 % 60) (t % 60))

-- a year that 400 divides, or 4 and not 100
unfoldable pub is_leap : ℕ → Bool
is_leap y = cond (eqb (y % 400) 0) true (cond (eqb (y % 100) 0) false (eqb (y % 4) 0))

-- the days of each month outside leap years; there is no month 0
abbrev pub months : List ℕ
months = 0 ∷ 31 ∷ 28 ∷ 31 ∷ 30 ∷ 31 ∷ 30 ∷ 31 ∷ 31 ∷ 30 ∷ 31 ∷ 30 ∷ 31 ∷ []

-- how many days a month of a year has; none where there is no such month
unfoldable pub days_of : ℕ → ℕ → ℕ
days_of y m = cond (eqb m 2) (cond (is_leap y) 29 28) (get_or months m 0)

-- "Years 80 to 99 are 1980 to 1999, 00 to 79 are 2000 to 2079 (h)."
unfoldable pub year_of : ℕ → ℕ
year_of yy = cond (leb 80 yy) (1900 + yy) (2000 + yy)

-- "DDMMYY", "The day must exist in that month and year."
unfoldable pub date_at : List ℕ → ℕ → Option Date
date_at s at =
    given (number_at s at 2) None λ d.
    given (number_at s (at + 2) 2) None λ m.
    given (number_at s (at + 4) 2) None λ yy.
    on (year_of yy) λ y.
    need (leb 1 d) None λ _.
    on (days_of y m) λ days.
    need (leb d days) None λ _.
    Some (record { day = d; month = m; year = y })

-- DDMMYY
unfoldable pub date_text : Date → List ℕ
date_text d = pairs_text d.day d.month (d.year % 100)

-- one of two letters
unfoldable pub is_either : ℕ → ℕ → ℕ → Bool
is_either x a b = eqb x a || eqb x b

-- "Position: a count of thousandths of a minute with its letter kept beside it. Minutes are 00 to 59." "0 S and 0 N differ." Degrees have `width` digits, the count is `most`
-- at most, and the letter is a or b.
unfoldable pub position_at : List ℕ → ℕ → ℕ → ℕ → ℕ → ℕ → Option Position
position_at s at width most a b =
    given (number_at s at width) None λ d.
    given (number_at s (at + width) 5) None λ m.
    need (leb m 59999) None λ _.
    need (leb (d * 60000 + m) most) None λ _.
    on (get_or s (at + width + 5) 0) λ l.
    need (is_either l a b) None λ _.
    Some (record { count = d * 60000 + m; letter = l })

-- "Latitude at most 5,400,000, longitude at most 10,800,000."
abbrev pub most_latitude : ℕ
most_latitude = 5400000

abbrev pub most_longitude : ℕ
most_longitude = 10800000

-- "latitude DDMMmmm and N or S"
abbrev pub latitude_at : List ℕ → ℕ → Option Position
latitude_at s at = position_at s at 2 most_latitude (code "N") (code "S")

-- "longitude DDDMMmmm and E or W"
abbrev pub longitude_at : List ℕ → ℕ → Option Position
longitude_at s at = position_at s at 3 most_longitude (code "E") (code "W")

-- degrees in `width` digits, MMmmm, and the letter
unfoldable pub position_text : ℕ → Position → List ℕ
position_text width p = digits_of width (p.count / 60000) ++ (digits_of 5 (p.count % 60000) ++ (p.letter ∷ []))

abbrev pub latitude_text : Position → List ℕ
latitude_text p = position_text 2 p

abbrev pub longitude_text : Position → List ℕ
longitude_text p = position_text 3 p

-- "Altitude in metres: five digits, or a minus and four digits that are not all zero. So -9,999 to 99,999."
unfoldable pub altitude_at : List ℕ → ℕ → Option Height
altitude_at s at =
    on (get_or s at 0) λ b.
    cond (eqb b (code "-"))
    (given (number_at s (at + 1) 4) None λ v. need (leb 1 v) None λ _. Some (record { metres = neg_ℤ (pos v) }))
    (given (number_at s at 5) None λ v. Some (record { metres = pos v }))

-- five digits, or a minus and four
abbrev pub metres_text : ℤ → List ℕ
metres_text (pos n) = digits_of 5 n
metres_text (negsuc n) = code "-" ∷ digits_of 4 (n + 1)

unfoldable pub altitude_text : Height → List ℕ
altitude_text h = metres_text h.metres

-- the answers, in the paper's terms: the value, or that the field breaks its rule
