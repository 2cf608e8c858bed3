-- A track as GPX 1.1: the text before the first point, a point for each fix, and the text behind the last. No document describes it (docs/DECISIONS.md).
use Rattle.std.specs.Prelude.{ℕ, List, [], ◌∷◌, ◌++◌}
use Prim.Native.Char.{code}
use Rattle.rules.specs.Choice.{bytes}
use Rattle.rules.specs.Listing.{lf}
use Rattle.rules.specs.declared.Date.{Date}
use Rattle.rules.specs.declared.FinePosition.{FinePosition}
use Rattle.rules.specs.declared.FineTime.{FineTime}
use Rattle.rules.specs.declared.Fix.{Fix}
use Rattle.rules.specs.declared.Height.{Height}
use Rattle.text_decimals.specs.Decimals.{degrees_behind}
use Rattle.text_instant.specs.Instants.{moment_of, metres_behind}

-- before the first point
unfoldable pub open_shown : List ℕ
unfolding bytes
open_shown =
    bytes "<?xml version=\"1.0\" encoding=\"UTF-8\"?>" ++ (lf
    ++ (bytes "<gpx version=\"1.1\" creator=\"Hivebasket\" xmlns=\"http://www.topografix.com/GPX/1/1\">" ++ (lf
    ++ (bytes "<trk><trkseg>" ++ lf))))

-- behind the last
unfoldable pub shut_shown : List ℕ
unfolding bytes
shut_shown = bytes "</trkseg></trk></gpx>" ++ lf

-- latitude and longitude in degrees
unfoldable pub place_shown : FinePosition → FinePosition → List ℕ
unfolding bytes
place_shown lat lon = bytes "<trkpt lat=" ++ (degrees_behind (code "\"") lat ++ (bytes "\" lon=" ++ degrees_behind (code "\"") lon))

-- the GNSS altitude in metres, and the moment
unfoldable pub rise_shown : Date → ℕ → FineTime → Height → List ℕ
unfolding bytes
rise_shown d day t h = bytes "\"><ele" ++ (metres_behind (code ">") h.metres ++ (bytes "</ele><time>" ++ (moment_of d day t ++ (bytes "</time></trkpt>" ++ lf))))

-- a fix on a day that is counted from a date
unfoldable pub point_shown : Date → ℕ → Fix → List ℕ
point_shown d day f = place_shown f.lat f.lon ++ rise_shown d day f.time f.gnss
