-- A moment put together. Assumes nothing.
use Prim.Native.Nat.{ℕ}
use mathlib.Core.List.{List, [], ◌∷◌}
use Rattle.rules.specs.declared.Date.{Date}
use Rattle.rules.specs.declared.FineTime.{FineTime}
use Rattle.text_dates.specs.Dates.{date_shown}
use Rattle.text_decimals.specs.Decimals.{clock_behind}
use Rattle.text_calendar.specs.Calendar.{civil_told, DateAfter}
use Rattle.text_calendar.specs.declared.Civil.{Civil}
use Rattle.text_pieces.specs.Buffer.{PiecePut}
use Rattle.text_pieces.proofs.Laws.{then}
use Rattle.text_instant.specs.Instants.{instant_shown, moment_of}

-- the date that was told, T, the time, Z
pub moment_fills : (out one two after : List ℕ) (at a b r : ℕ) (d : Date) (day : ℕ) (t : FineTime) (c : Civil) → DateAfter d day c → PiecePut out at (date_shown (civil_told c)) a one
    → PiecePut one a (clock_behind 84 t) b two → PiecePut two b (90 ∷ []) r after → PiecePut out at (moment_of d day t) r after
unfolding instant_shown
moment_fills out one two after at a b r d day t c e p q s = then (rw e at p) (then q s)
