-- The text of a track for people, one line for each fix: its line number, its day, its time, its position in degrees, its validity and both altitudes, time and position with the
-- decimals that the file has. No document describes it (docs/DECISIONS.md).
use Rattle.std.specs.Prelude.{ℕ, List, ◌++◌}
use Rattle.rules.specs.Listing.{decimal, shown, shown_letter, shown_metres, lf}
use Rattle.rules.specs.declared.FineTime.{FineTime}
use Rattle.rules.specs.declared.Fix.{Fix}
use Rattle.text_decimals.specs.Decimals.{shown_clock, shown_degrees}

-- line, day and time
unfoldable pub moment_shown : ℕ → ℕ → FineTime → List ℕ
moment_shown line day t = decimal line ++ (shown day ++ shown_clock t)

-- validity, pressure and GNSS altitude
unfoldable pub heights_shown : Fix → List ℕ
heights_shown f = shown_letter f.validity ++ (shown_metres f.pressure.metres ++ (shown_metres f.gnss.metres ++ lf))

-- line, day, time, latitude, longitude, validity, pressure and GNSS altitude, with one space between
unfoldable pub record_shown : ℕ → ℕ → Fix → List ℕ
record_shown line day f = moment_shown line day f.time ++ (shown_degrees f.lat ++ (shown_degrees f.lon ++ heights_shown f))
