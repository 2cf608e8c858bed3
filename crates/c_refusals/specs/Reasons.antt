-- Document 01's table of refusals, read from the number to the reason.
use Rattle.std.specs.Prelude.{ℕ, cond, eqb, None, Option, Some}
use Rattle.rules.specs.declared.Reason.{Reason}
use Rattle.rules.specs.declared.Reason.TheVariants.{Empty, TooLong, LineEnd, EmptyLine, Kind, Order, Length, Character, Form, Tile, Twice, Width, Column, Back, TableFull, EndsEarly, BadValue, NoRoom, Absent, NotNumber, InputOver, Time, Position, Altitude, Date, NotSame, Shelf, Id, Entries, NoRun, NotFound}

-- "No. | Name": the reason that has a number; none where no refusal has it
unfoldable pub reason_numbered : ℕ → Option Reason
reason_numbered n =
    cond (eqb n 1) (Some Empty)
    (cond (eqb n 2) (Some TooLong)
    (cond (eqb n 3) (Some LineEnd)
    (cond (eqb n 4) (Some EmptyLine)
    (cond (eqb n 5) (Some Kind)
    (cond (eqb n 6) (Some Order)
    (cond (eqb n 7) (Some Length)
    (cond (eqb n 8) (Some Character)
    (cond (eqb n 9) (Some Form)
    (cond (eqb n 10) (Some Tile)
    (cond (eqb n 11) (Some Twice)
    (cond (eqb n 12) (Some Width)
    (cond (eqb n 13) (Some Column)
    (cond (eqb n 14) (Some Back)
    (cond (eqb n 15) (Some TableFull)
    (cond (eqb n 16) (Some EndsEarly)
    (cond (eqb n 17) (Some BadValue)
    (cond (eqb n 18) (Some NoRoom)
    (cond (eqb n 19) (Some Absent)
    (cond (eqb n 20) (Some NotNumber)
    (cond (eqb n 21) (Some InputOver)
    (cond (eqb n 22) (Some Time)
    (cond (eqb n 23) (Some Position)
    (cond (eqb n 24) (Some Altitude)
    (cond (eqb n 25) (Some Date)
    (cond (eqb n 26) (Some NotSame)
    (cond (eqb n 27) (Some Shelf)
    (cond (eqb n 28) (Some Id)
    (cond (eqb n 29) (Some Entries)
    (cond (eqb n 30) (Some NoRun)
    (cond (eqb n 31) (Some NotFound) None))))))))))))))))))))))))))))))

-- the answer, in the paper's terms
