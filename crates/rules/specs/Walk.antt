-- Document 01, the time order of 'Fields', and document 02, 'The whole track for the map': a walk over the lines of a file, with the clock and the day behind each line.
use Rattle.std.specs.Prelude.{ℕ, ◌+◌, cond, List, get_or, None, Option, Some}
use Rattle.rules.specs.Choice.{byte}
use Rattle.rules.specs.Fields.{time_at}
use Rattle.rules.specs.Lines.{kind_of}
use Rattle.rules.specs.Roles.{role_of, is_timed}
use Rattle.rules.specs.Order.{start, Passing, onward, next_day, back, passing}

-- how far a walk has come: how many lines are passed, the last time, and the "day number counted from 0"
pub record Walk : Type 0 where
  pub lines : ℕ
  pub clock : ℕ
  pub day : ℕ

-- before the first line, where the check starts too
abbrev pub set_out : Walk
set_out = record { lines = 0; clock = start.clock; day = 0 }

-- the time of a line, at 2 to 7, where its kind runs in time order
abbrev pub time_on : List ℕ → Option ℕ
time_on l = cond (is_timed (role_of (kind_of (get_or l 0 0)))) (time_at l (byte 2)) None

-- "The day number rises at each fall over 43,200 along the time order"
abbrev pub day_after : Passing → ℕ → ℕ
day_after onward day = day
day_after next_day day = day + 1
day_after back day = day

-- one line further, by its time, if it has one
abbrev pub walked_by : Option ℕ → Walk → Walk
walked_by None w = record { lines = w.lines + 1; clock = w.clock; day = w.day }
walked_by (Some t) w = record { lines = w.lines + 1; clock = t; day = day_after (passing w.clock t) w.day }

abbrev pub walked : List ℕ → Walk → Walk
walked l w = walked_by (time_on l) w
