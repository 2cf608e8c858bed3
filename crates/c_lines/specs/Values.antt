-- The values of an answer on a line that has no layout, and the two angles of a position.
use Rattle.std.specs.Prelude.{ℕ, List, [], ◌∷◌, Float, None, Option, Some}
use Rattle.std.specs.Float.{binary64}
use Rattle.std.specs.Float.Ieee.{of_bits}
use Rattle.rules.specs.Refusals.{Said, says, refuses}
use Rattle.rules.specs.declared.Date.{Date}
use Rattle.rules.specs.declared.Degrees.{Degrees}
use Rattle.rules.specs.declared.Head.{Head}
use Rattle.rules.specs.declared.Point.{Point}

-- a date
abbrev pub date_numbers : Date → List ℕ
date_numbers d = d.day ∷ d.month ∷ d.year ∷ []

-- "000000 means not given": so in numbers
abbrev pub planned_date : Option Date → Date
planned_date (Some d) = d
planned_date None = record { day = 0; month = 0; year = 0 }

-- the head of a declaration: declared date, time, flight date, task number, number of turn points
abbrev pub head_numbers : Head → List ℕ
head_numbers h =
    h.declared.day ∷ h.declared.month ∷ h.declared.year ∷ h.time ∷ (planned_date h.flight).day ∷ (planned_date h.flight).month ∷ (planned_date h.flight).year ∷ h.task ∷ h.turns ∷ []

-- a point of a declaration, its position where a fix has it, with no extra decimals
abbrev pub point_numbers : Point → List ℕ
point_numbers p = 0 ∷ 0 ∷ p.lat.count ∷ p.lat.letter ∷ 0 ∷ p.lon.count ∷ p.lon.letter ∷ []

-- a latitude and a longitude in degrees; plain zero, the f64 whose bits are all 0, where refused
abbrev pub angles_of : Said Degrees → List Float
angles_of (says d) = d.lat ∷ d.lon ∷ []
angles_of (refuses n l b) = of_bits binary64 0 ∷ of_bits binary64 0 ∷ []
