-- A track as comma-separated values: a line of names, and a line for each fix. No field has a comma, a quote or a line's end in it, so none is quoted. No document describes it
-- (docs/DECISIONS.md).
use Rattle.std.specs.Prelude.{ℕ, List, [], ◌∷◌, ◌++◌}
use Prim.Native.Char.{code}
use Rattle.rules.specs.Choice.{bytes}
use Rattle.rules.specs.Listing.{lf}
use Rattle.rules.specs.declared.Date.{Date}
use Rattle.rules.specs.declared.Fix.{Fix}
use Rattle.text_decimals.specs.Decimals.{degrees_behind}
use Rattle.text_instant.specs.Instants.{moment_of, metres_behind}

-- the names of the fields
unfoldable pub names_shown : List ℕ
unfolding bytes
names_shown = bytes "time,latitude,longitude,validity,pressure,gnss" ++ lf

-- validity and both altitudes
unfoldable pub rest_shown : Fix → List ℕ
rest_shown f = code "," ∷ f.validity ∷ (metres_behind (code ",") f.pressure.metres ++ (metres_behind (code ",") f.gnss.metres ++ lf))

-- a fix on a day that is counted from a date: its moment, its position in degrees, its validity and both altitudes in metres, time and position with the decimals that the file has
unfoldable pub row_shown : Date → ℕ → Fix → List ℕ
row_shown d day f = moment_of d day f.time ++ (degrees_behind (code ",") f.lat ++ (degrees_behind (code ",") f.lon ++ rest_shown f))
