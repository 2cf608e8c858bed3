-- A point has at most 180 bytes. Assumes nothing.
use Prim.Native.Nat.{ℕ, ◌≤◌}
use native.Mathlib.Omega.{arith}
use lib.ListN.{length, length-append}
use Rattle.rules.specs.Choice.{bytes}
use Rattle.rules.specs.declared.Date.{Date}
use Rattle.rules.specs.declared.FinePosition.{FinePosition}
use Rattle.rules.specs.declared.FineTime.{FineTime}
use Rattle.rules.specs.declared.Fix.{Fix}
use Rattle.rules.specs.declared.Height.{Height}
use Rattle.text_decimals.proofs.Room.{degrees_behind_room}
use Rattle.text_calendar.specs.Calendar.{days_after}
use Rattle.text_instant.proofs.Room.{instant_room, height_room}
use Rattle.text_gpx.specs.Points.{place_shown, rise_shown, point_shown}

place_room : (lat lon : FinePosition) → length (place_shown lat lon) ≤ 83
unfolding place_shown bytes
place_room lat lon = simp length-append (omega (arith, degrees_behind_room 34 lat, degrees_behind_room 34 lon))

rise_room : (d : Date) (day : ℕ) (t : FineTime) (h : Height) → length (rise_shown d day t h) ≤ 97
unfolding rise_shown bytes
rise_room d day t h = simp length-append (omega (arith, height_room 62 h.metres, instant_room (days_after day d) t))

pub point_room : (d : Date) (day : ℕ) (f : Fix) → length (point_shown d day f) ≤ 180
unfolding point_shown
point_room d day f = simp length-append (omega (arith, place_room f.lat f.lon, rise_room d day f.time f.gnss))
