-- A line has at most 320 bytes, so that a buffer of as many never cuts one. Assumes nothing.
use Prim.Native.Nat.{ℕ, ◌/◌, ◌≤◌}
use mathlib.Core.Bool.{Bool, true, false, cond}
use mathlib.Core.List.{List, [], ◌∷◌, ◌++◌}
use mathlib.Core.Path.{refl}
use native.Mathlib.Omega.{arith}
use lib.Dec.{eqb}
use lib.IntN.{ℤ, nat_abs}
use lib.ListN.{length, length-append}
use Rattle.rules.specs.Choice.{bytes}
use Rattle.rules.specs.Listing.{decimal}
use Rattle.rules.specs.declared.Date.{Date}
use Rattle.text_dates.specs.Dates.{two_digits, date_shown}
use Rattle.text_pieces.specs.Buffer.{Shown}
use Rattle.text_pieces.proofs.Laws.{number_room, whole}
use Rattle.text_listing.proofs.Laws.{metres_room}
use Rattle.text_decimals.specs.Decimals.{shown_seconds}
use Rattle.text_decimals.proofs.Room.{clock_length}
use Rattle.text_twelve.specs.Twelve.{fixes, first_day, first_seconds, last_day, last_seconds, lasting, highest, lowest}
use Rattle.text_box.proofs.Room.{box_room}
use Rattle.text_summary.specs.Outline.{day_shown, when_shown, lasting_shown, times_shown, heights_shown, flight_shown, outline_shown, OutlinePut}

date_room : (d : Date) → length (date_shown d) ≤ 26
unfolding date_shown two_digits
date_room d = simp length-append (omega (arith, number_room d.year))

day_room : (day : ℕ) → length (day_shown day) ≤ 21
unfolding day_shown
day_room day = by (eqb day 0)
  where
    by : (t : Bool) → length (cond t [] (43 ∷ decimal day)) ≤ 21
    by true = omega arith
    by false = omega (arith, number_room day)

when_room : (day seconds : ℕ) → length (when_shown day seconds) ≤ 30
unfolding when_shown shown_seconds
when_room day seconds = simp length-append (omega (arith, clock_length seconds, day_room day))

lasting_room : (n : ℕ) → length (lasting_shown n) ≤ 27
unfolding lasting_shown two_digits
lasting_room n = simp length-append (omega (arith, number_room (n / 3600)))

module _ (l : List ℤ) where
  times_room : length (times_shown l) ≤ 87
  unfolding times_shown
  times_room =
      simp length-append
      (omega
      (arith, when_room (first_day l) (first_seconds l), when_room (last_day l) (last_seconds l), lasting_room (lasting (first_day l) (first_seconds l) (last_day l) (last_seconds l))))

  heights_room : length (heights_shown l) ≤ 44
  unfolding heights_shown
  heights_room = simp length-append (omega (arith, metres_room (highest l), metres_room (lowest l)))

  flight_room : length (flight_shown l) ≤ 131
  unfolding flight_shown bytes
  flight_room = by (eqb (nat_abs (fixes l)) 0)
    where
      by : (t : Bool) → length (cond t (bytes " - - - - -") (times_shown l ++ heights_shown l)) ≤ 131
      by true = omega arith
      by false = simp length-append (omega (arith, times_room, heights_room))

pub outline_room : (d : Date) (l : List ℤ) → length (outline_shown d l) ≤ 320
unfolding outline_shown
outline_room d l = simp length-append (omega (arith, date_room d, flight_room l, metres_room (fixes l), box_room l))

-- the line stands whole at the front of such a buffer, and behind it the buffer is as it was
pub outline_whole : (d : Date) (l : List ℤ) (out : List ℕ) (r : ℕ) (after : List ℕ) → OutlinePut d l out r after → 320 ≤ length out → Shown (outline_shown d l) out r after
outline_whole d l out r after p h = whole refl (omega (arith, outline_room d l)) p
