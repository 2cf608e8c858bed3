-- Document 01, 'Refusal numbers', with the numbers of document 02: the table, and what an answer says.
use Rattle.std.specs.Prelude.{ℕ, Result, Ok, Err}
use Rattle.rules.specs.declared.Class.{Class}
use Rattle.rules.specs.declared.Class.TheVariants as class
use Rattle.rules.specs.declared.Reason.{Reason}
use Rattle.rules.specs.declared.Reason.TheVariants.{Empty, TooLong, LineEnd, EmptyLine, Kind, Order, Length, Character, Form, Tile, Twice, Width, Column, Back, TableFull, EndsEarly, BadValue, NoRoom, Absent, NotNumber, InputOver, Time, Position, Altitude, Date, NotSame, Shelf, Id, Entries, NoRun, NotFound}
use Rattle.rules.specs.declared.Refusal.{Refusal}

-- "No. | Name"
unfoldable pub number : Reason → ℕ
number Empty = 1
number TooLong = 2
number LineEnd = 3
number EmptyLine = 4
number Kind = 5
number Order = 6
number Length = 7
number Character = 8
number Form = 9
number Tile = 10
number Twice = 11
number Width = 12
number Column = 13
number Back = 14
number TableFull = 15
number EndsEarly = 16
number BadValue = 17
number NoRoom = 18
number Absent = 19
number NotNumber = 20
number InputOver = 21
-- "22 TIME, 23 POSITION, 24 ALTITUDE, 25 DATE"
number Time = 22
number Position = 23
number Altitude = 24
number Date = 25
-- "26 NOT_SAME"
number NotSame = 26
-- "27 SHELF", "28 ID", "29 ENTRIES", "30 NO_RUN", "31 NOT_FOUND"
number Shelf = 27
number Id = 28
number Entries = 29
number NoRun = 30
number NotFound = 31

-- what an answer says: a value, or the number, line and byte of a refusal
pub data Said (A : Type 0) : Type 0 where
  says : A → Said A
  refuses : ℕ → ℕ → ℕ → Said A

module _ {A : Type 0} where
  -- a refusal by its name, at a byte of the line in hand, whose own number is not known there: "with 0 for the line number"
  abbrev pub no : Reason → ℕ → Said A
  no reason byte = refuses (number reason) 0 byte

  -- the refusal that the code makes, in the paper's terms
  abbrev pub refusal : Refusal → Said A
  refusal r = refuses (number r.reason) r.line r.byte

  -- what the code's answer says, in the paper's terms
  unfoldable pub result_told : Result A Refusal → Said A
  result_told (Ok v) = says v
  result_told (Err r) = refusal r

  -- a refusal of the line in hand, as one of line n
  abbrev pub in_line : ℕ → Said A → Said A
  in_line n (says v) = says v
  in_line n (refuses k l b) = refuses k n b

  -- "A refused reading returns no value": the value, or what stands in its place
  abbrev pub value_or : A → Said A → A
  value_or a (says v) = v
  value_or a (refuses n l b) = a

  -- whether there is a value, and the refusal where there is none
  abbrev pub outcome : Said A → Said (Unit {0})
  outcome (says v) = says tt
  outcome (refuses n l b) = refuses n l b

module _ {A B : Type 0} where
  -- what f says of the value; a refusal stays what it is
  abbrev pub and_then : Said A → (A → Said B) → Said B
  and_then (says v) f = f v
  and_then (refuses n l b) f = refuses n l b

-- "9 FORM: first field against its rule"; "A time field that breaks its rule becomes TIME, a latitude or longitude POSITION, an altitude ALTITUDE, a date DATE; every
-- other field stays 9."
abbrev pub reason_of : Class → Reason
reason_of class.Time = Time
reason_of class.Position = Position
reason_of class.Altitude = Altitude
reason_of class.Date = Date
reason_of class.Other = Form

module _ {A : Type 0} where
  -- "line, field's first byte"
  abbrev pub breaks : Class → ℕ → Said A
  breaks c first = no (reason_of c) first
