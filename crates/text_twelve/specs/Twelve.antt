-- The twelve numbers of document 02, 'A summary beside each flight', by their places in a list, for any list of numbers; how long the flight lasted; and the promises.
use Rattle.std.specs.Prelude.{ℕ, ◌+◌, ◌*◌, ◌-◌, Bool, List, ◌≡◌, eqb, ℤ, pos, negsuc, nat_abs, get_or}
use Rattle.rules.specs.declared.Height.{Height}

-- the number at a place of a list, places counted from 0; 0 past its end
abbrev pub number : List ℤ → ℕ → ℤ
number l k = get_or l k (pos 0)

-- a day and a count of seconds are not below zero; a number that is, which no summary has there, is taken for 0
abbrev pub natural : ℤ → ℕ
natural (pos n) = n
natural (negsuc n) = 0

module _ (l : List ℤ) where
  -- "number of fixes; day and plain seconds of the first, then of the last; highest and lowest pressure altitude; 1 or 0 for "has a position"; least and greatest latitude, least and
  -- greatest longitude as signed plain counts (south and west negative)"
  abbrev pub fixes : ℤ
  fixes = number l 0

  abbrev pub first_day : ℕ
  first_day = natural (number l 1)

  abbrev pub first_seconds : ℕ
  first_seconds = natural (number l 2)

  abbrev pub last_day : ℕ
  last_day = natural (number l 3)

  abbrev pub last_seconds : ℕ
  last_seconds = natural (number l 4)

  abbrev pub highest : ℤ
  highest = number l 5

  abbrev pub lowest : ℤ
  lowest = number l 6

  abbrev pub has_position : ℤ
  has_position = number l 7

  abbrev pub least_latitude : ℤ
  least_latitude = number l 8

  abbrev pub greatest_latitude : ℤ
  greatest_latitude = number l 9

  abbrev pub least_longitude : ℤ
  least_longitude = number l 10

  abbrev pub greatest_longitude : ℤ
  greatest_longitude = number l 11

-- from a day and its seconds to another day and its seconds, at 86,400 seconds a day; 0 where the second is not after the first
unfoldable pub lasting : ℕ → ℕ → ℕ → ℕ → ℕ
lasting day seconds day' seconds' = (day' * 86400 + seconds') - (day * 86400 + seconds)

-- ---- the promises

-- the number at a place, held as an altitude is, which is one signed number
abbrev pub NumberAt : List ℤ → ℕ → Height → Type 0
NumberAt l k r = r ≡ record { metres = number l k }

abbrev pub NaturalAt : List ℤ → ℕ → ℕ → Type 0
NaturalAt l k r = r ≡ natural (number l k)

-- the number at a place is 0
abbrev pub NoneTest : List ℤ → ℕ → Bool → Type 0
NoneTest l k r = r ≡ eqb (nat_abs (number l k)) 0

-- how many seconds lie between the first fix and the last
abbrev pub FlightLasted : List ℤ → ℕ → Type 0
FlightLasted l r = r ≡ lasting (first_day l) (first_seconds l) (last_day l) (last_seconds l)
