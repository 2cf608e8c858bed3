-- The reason of a number is the one that has it, and no other: `reason_numbered` reads the table that `number` writes. Assumes nothing.
use Rattle.std.specs.Prelude.{None, Option, Some}
use Prim.Native.Nat.{ℕ}
use mathlib.Core.Bool.{Bool, true, false, cond}
use mathlib.Core.Path.{◌≡◌, refl, sym}
use borrow.Author.Tests.{eqb-true}
use lib.Dec.{eqb}
use Rattle.rules.specs.Refusals.{number}
use Rattle.rules.specs.declared.Reason.{Reason}
use Rattle.rules.specs.declared.Reason.TheVariants.{Empty, TooLong, LineEnd, EmptyLine, Kind, Order, Length, Character, Form, Tile, Twice, Width, Column, Back, TableFull, EndsEarly, BadValue, NoRoom, Absent, NotNumber, InputOver, Time, Position, Altitude, Date, NotSame, Shelf, Id, Entries, NoRun, NotFound}
use Rattle.rules.proofs.Inverse.{none_some}
use Rattle.c_refusals.specs.Reasons.{reason_numbered}

pub reason_of_number : (r : Reason) → reason_numbered (number r) ≡ Some r
unfolding reason_numbered number
reason_of_number Empty = refl
reason_of_number TooLong = refl
reason_of_number LineEnd = refl
reason_of_number EmptyLine = refl
reason_of_number Kind = refl
reason_of_number Order = refl
reason_of_number Length = refl
reason_of_number Character = refl
reason_of_number Form = refl
reason_of_number Tile = refl
reason_of_number Twice = refl
reason_of_number Width = refl
reason_of_number Column = refl
reason_of_number Back = refl
reason_of_number TableFull = refl
reason_of_number EndsEarly = refl
reason_of_number BadValue = refl
reason_of_number NoRoom = refl
reason_of_number Absent = refl
reason_of_number NotNumber = refl
reason_of_number InputOver = refl
reason_of_number Time = refl
reason_of_number Position = refl
reason_of_number Altitude = refl
reason_of_number Date = refl
reason_of_number NotSame = refl
reason_of_number Shelf = refl
reason_of_number Id = refl
reason_of_number Entries = refl
reason_of_number NoRun = refl
reason_of_number NotFound = refl

-- a number that no refusal has, has no reason
module _ (n : ℕ) (r : Reason) where
  step : (t : Bool) (x : Reason) (rest : Option Reason) → (t ≡ true → number x ≡ n) → (rest ≡ Some r → number r ≡ n) → cond t (Some x) rest ≡ Some r → number r ≡ n
  step true x rest f g e = let i : x ≡ r = cc in rw (← i) (f refl)
  step false x rest f g e = g e

  pub number_of_reason : reason_numbered n ≡ Some r → number r ≡ n
  unfolding reason_numbered number
  number_of_reason =
      step (eqb n 1) Empty _ (λ e. sym (eqb-true n 1 e))
      (step (eqb n 2) TooLong _ (λ e. sym (eqb-true n 2 e))
      (step (eqb n 3) LineEnd _ (λ e. sym (eqb-true n 3 e))
      (step (eqb n 4) EmptyLine _ (λ e. sym (eqb-true n 4 e))
      (step (eqb n 5) Kind _ (λ e. sym (eqb-true n 5 e))
      (step (eqb n 6) Order _ (λ e. sym (eqb-true n 6 e))
      (step (eqb n 7) Length _ (λ e. sym (eqb-true n 7 e))
      (step (eqb n 8) Character _ (λ e. sym (eqb-true n 8 e))
      (step (eqb n 9) Form _ (λ e. sym (eqb-true n 9 e))
      (step (eqb n 10) Tile _ (λ e. sym (eqb-true n 10 e))
      (step (eqb n 11) Twice _ (λ e. sym (eqb-true n 11 e))
      (step (eqb n 12) Width _ (λ e. sym (eqb-true n 12 e))
      (step (eqb n 13) Column _ (λ e. sym (eqb-true n 13 e))
      (step (eqb n 14) Back _ (λ e. sym (eqb-true n 14 e))
      (step (eqb n 15) TableFull _ (λ e. sym (eqb-true n 15 e))
      (step (eqb n 16) EndsEarly _ (λ e. sym (eqb-true n 16 e))
      (step (eqb n 17) BadValue _ (λ e. sym (eqb-true n 17 e))
      (step (eqb n 18) NoRoom _ (λ e. sym (eqb-true n 18 e))
      (step (eqb n 19) Absent _ (λ e. sym (eqb-true n 19 e))
      (step (eqb n 20) NotNumber _ (λ e. sym (eqb-true n 20 e))
      (step (eqb n 21) InputOver _ (λ e. sym (eqb-true n 21 e))
      (step (eqb n 22) Time _ (λ e. sym (eqb-true n 22 e))
      (step (eqb n 23) Position _ (λ e. sym (eqb-true n 23 e))
      (step (eqb n 24) Altitude _ (λ e. sym (eqb-true n 24 e))
      (step (eqb n 25) Date _ (λ e. sym (eqb-true n 25 e))
      (step (eqb n 26) NotSame _ (λ e. sym (eqb-true n 26 e))
      (step (eqb n 27) Shelf _ (λ e. sym (eqb-true n 27 e))
      (step (eqb n 28) Id _ (λ e. sym (eqb-true n 28 e))
      (step (eqb n 29) Entries _ (λ e. sym (eqb-true n 29 e))
      (step (eqb n 30) NoRun _ (λ e. sym (eqb-true n 30 e))
      (step (eqb n 31) NotFound None (λ e. sym (eqb-true n 31 e)) (λ e. absurd (none_some e))))))))))))))))))))))))))))))))
