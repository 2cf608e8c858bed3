-- A record's line has at most 168 bytes. Assumes nothing.
use Prim.Native.Nat.{ℕ, ◌≤◌}
use native.Mathlib.Omega.{arith}
use lib.ListN.{length, length-append}
use Rattle.rules.specs.declared.FineTime.{FineTime}
use Rattle.rules.specs.declared.Fix.{Fix}
use Rattle.text_pieces.proofs.Laws.{number_room}
use Rattle.text_listing.proofs.Laws.{metres_room}
use Rattle.text_decimals.proofs.Room.{clock_room, degrees_room}
use Rattle.text_track.specs.Trail.{moment_shown, heights_shown, record_shown}

moment_room : (line day : ℕ) (t : FineTime) → length (moment_shown line day t) ≤ 55
unfolding moment_shown
moment_room line day t = simp length-append (omega (arith, number_room line, number_room day, clock_room t))

heights_room : (f : Fix) → length (heights_shown f) ≤ 47
unfolding heights_shown
heights_room f = simp length-append (omega (arith, metres_room f.pressure.metres, metres_room f.gnss.metres))

pub record_room : (line day : ℕ) (f : Fix) → length (record_shown line day f) ≤ 168
unfolding record_shown
record_room line day f = simp length-append (omega (arith, moment_room line day f.time, degrees_room f.lat, degrees_room f.lon, heights_room f))
