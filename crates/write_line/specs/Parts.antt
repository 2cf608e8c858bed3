-- The parts of a line that a function of its own fills: what stands behind the first fields.
use Rattle.std.specs.Prelude.{List, ◌∷◌, ◌++◌, ℕ}
use Rattle.rules.specs.Numbers.{digits_of}
use Rattle.rules.specs.Fields.{latitude_text, longitude_text, altitude_text}
use Rattle.rules.specs.Writes.{planned_text}
use Rattle.rules.specs.declared.FixFields.{FixFields}
use Rattle.rules.specs.declared.Head.{Head}

-- a head's flight date, task number, number of turn points and text
abbrev pub plan_text : Head → List ℕ → List ℕ
plan_text h rest = planned_text h.flight ++ (digits_of 4 h.task ++ (digits_of 2 h.turns ++ rest))

-- a fix's altitudes, and its columns
abbrev pub heights_text : FixFields → List ℕ → List ℕ
heights_text f tail = altitude_text f.pressure ++ (altitude_text f.gnss ++ tail)

-- a fix's position, validity, altitudes and columns
abbrev pub place_text : FixFields → List ℕ → List ℕ
place_text f tail = latitude_text f.lat ++ (longitude_text f.lon ++ (f.validity ∷ heights_text f tail))
