-- One turn of the check of a file: a line passed and entered in the table, or what stops the check.
use Rattle.std.specs.Prelude.{ℕ, ◌+◌, ◌≤◌, ◌<◌, Bool, ◌&&◌, List, leb, length, drop, Option, Result}
use Rattle.rules.specs.Choice.{need}
use Rattle.rules.specs.Order.{judge}
use Rattle.rules.specs.Refusals.{Said, no, refusal, in_line, and_then}
use Rattle.rules.specs.Split.{Lines, end, broken, line, lines_of}
use Rattle.rules.specs.declared.Reason.TheVariants.{LineEnd, BadValue}
use Rattle.rules.specs.declared.State.{State}
use Rattle.check_state.specs.States.{Few, has_few, in_next}
use Rattle.check_table.specs.Turns.{room_of}
use Rattle.check_table.specs.Entering.{good_line, Turned}
use Rattle.check_table.specs.declared.Reached.{Reached}
use Rattle.rules.specs.declared.Refusal.{Refusal}

-- "Checks go line by line, in a line 3 to 15 in this order": the first of the lines, behind `at` bytes. Where none is left, the place is not allowed.
unfoldable pub turn_in : Option ℕ → ℕ → State → Lines → Said Reached
turn_in room at st end = no BadValue 0
turn_in room at st (broken n) = refusal (in_next LineEnd (n + 1) st)
turn_in room at st (line t ls) = and_then (in_line (st.flight.lines + 1) (judge t st)) λ after. good_line room st (at + length t + 2) after

-- the place is in the file, the file is not too long, and the counts are few
unfoldable pub may_take : List ℕ → ℕ → State → Bool
may_take file at st = leb (at + 1) (length file) && (leb (length file) 16777216 && has_few st)

-- where that test is passed, this is known
pub record MayTake (file : List ℕ) (at : ℕ) (st : State) : Type 0 where
  pub within : at < length file
  pub size : length file ≤ 16777216
  pub few : Few st

-- the line behind `at` bytes; "17 BAD_VALUE: value .. or place given is not allowed; 0, 0"
unfoldable pub turn_at : Option ℕ → List ℕ → ℕ → State → Said Reached
turn_at room file at st = need (may_take file at st) (no BadValue 0) λ _. turn_in room at st (lines_of (drop at file))

-- the turn that is said, with the entry of a good line in the table; where refused, the table as it was
abbrev pub TurnTaken : List ℕ → Bool → List ℕ → ℕ → State → Result Reached Refusal → List ℕ → Type 0
TurnTaken file lent table at st r after = Turned (turn_at (room_of lent table) file at st) lent table at st r after
