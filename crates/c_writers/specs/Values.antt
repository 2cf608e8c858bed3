-- The values of plain numbers that a line is written of, and the values of the answer on it.
use Rattle.std.specs.Prelude.{ℕ, ◌&&◌, cond, List, [], ◌∷◌, eqb, ℤ, None, Option, Some}
use Rattle.rules.specs.declared.Date.{Date}
use Rattle.rules.specs.declared.Fix.{Fix}
use Rattle.rules.specs.declared.Head.{Head}
use Rattle.rules.specs.declared.Point.{Point}

-- the place after a line that was written
abbrev pub place_numbers : ℕ → List ℕ
place_numbers n = n ∷ []

-- a fix of plain numbers: each of its three counts has its extra decimals beside it
abbrev pub fix_from : ℕ → ℕ → ℕ → ℕ → ℕ → ℕ → ℕ → ℕ → ℕ → ℤ → ℤ → Fix
fix_from seconds of_seconds latitude n_or_s of_latitude longitude e_or_w of_longitude validity pressure gnss =
    record {
      time = record { count = seconds; decimals = of_seconds };
      lat = record { count = latitude; letter = n_or_s; decimals = of_latitude };
      lon = record { count = longitude; letter = e_or_w; decimals = of_longitude };
      validity = validity;
      pressure = record { metres = pressure };
      gnss = record { metres = gnss };
    }

-- "000000 means not given": so in numbers
unfoldable pub planned_of : Date → Option Date
planned_of d = cond (eqb d.day 0 && eqb d.month 0 && eqb d.year 0) None (Some d)

-- a head of plain numbers, and a point
abbrev pub head_of : Date → ℕ → Date → ℕ → ℕ → Head
head_of declared seconds flight task turns =
    record { declared = declared; time = seconds; flight = planned_of flight; task = task; turns = turns }

abbrev pub point_of : ℕ → ℕ → ℕ → ℕ → Point
point_of latitude n_or_s longitude e_or_w =
    record { lat = record { count = latitude; letter = n_or_s }; lon = record { count = longitude; letter = e_or_w } }
