-- A fix's line has at most 154 bytes. Assumes nothing.
use Prim.Native.Nat.{ℕ, ◌≤◌}
use native.Mathlib.Omega.{arith}
use lib.ListN.{length, length-append}
use Rattle.rules.specs.declared.Date.{Date}
use Rattle.rules.specs.declared.Fix.{Fix}
use Rattle.text_decimals.proofs.Room.{degrees_behind_room}
use Rattle.text_calendar.specs.Calendar.{days_after}
use Rattle.text_instant.proofs.Room.{instant_room, height_room}
use Rattle.text_csv.specs.Rows.{rest_shown, row_shown}

rest_room : (f : Fix) → length (rest_shown f) ≤ 47
unfolding rest_shown
rest_room f = simp length-append (omega (arith, height_room 44 f.pressure.metres, height_room 44 f.gnss.metres))

pub row_room : (d : Date) (day : ℕ) (f : Fix) → length (row_shown d day f) ≤ 154
unfolding row_shown
row_room d day f = simp length-append (omega (arith, instant_room (days_after day d) f.time, degrees_behind_room 44 f.lat, degrees_behind_room 44 f.lon, rest_room f))
