-- How many bytes a moment and a height have at most. Assumes nothing.
use Prim.Native.Nat.{ℕ, ◌+◌, ◌≤◌}
use native.Mathlib.Omega.{arith}
use lib.IntN.{ℤ, pos, negsuc}
use lib.ListN.{length, length-append}
use Rattle.rules.specs.declared.Date.{Date}
use Rattle.rules.specs.declared.FineTime.{FineTime}
use Rattle.text_dates.specs.Dates.{two_digits, date_shown}
use Rattle.text_decimals.proofs.Room.{clock_behind_room}
use Rattle.text_pieces.proofs.Laws.{number_room}
use Rattle.text_instant.specs.Instants.{instant_shown, metres_behind}

pub instant_room : (d : Date) (t : FineTime) → length (instant_shown d t) ≤ 41
unfolding instant_shown date_shown two_digits
instant_room d t = simp length-append (omega (arith, number_room d.year, clock_behind_room 84 t))

pub height_room : (mark : ℕ) (z : ℤ) → length (metres_behind mark z) ≤ 22
height_room mark (pos n) = omega (arith, number_room n)
height_room mark (negsuc n) = omega (arith, number_room (n + 1))
