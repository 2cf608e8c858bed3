-- A line passed in the check of a file, and what holds at each turn of the check.
use Rattle.std.specs.Prelude.{ℕ, ◌+◌, ◌≤◌, Bool, true, false, cond, List, ◌++◌, ◌≡◌, length, set, drop, None, Option, Some}
use Rattle.rules.specs.Families.{count_of}
use Rattle.rules.specs.Files.{has_room, run}
use Rattle.rules.specs.Order.{start, judge}
use Rattle.rules.specs.Refusals.{says}
use Rattle.rules.specs.Split.{line, lines_of, offsets}
use Rattle.rules.specs.declared.Family.{Family}
use Rattle.rules.specs.declared.Seal.{Seal}
use Rattle.rules.specs.declared.State.{State}

-- the line behind `at` bytes is good, the next one stands behind `next` bytes, and s is the state between them
pub record Passed (file : List ℕ) (at : ℕ) (st : State) (next : ℕ) (s : State) : Type 0 where
  pub text : List ℕ
  pub lines : lines_of (drop at file) ≡ line text (lines_of (drop next file))
  pub place : at + length text + 2 ≡ next
  pub within : next ≤ length file
  pub judged : judge text st ≡ says s

-- ---- the table, where one is lent

-- how many entries it has
abbrev pub room_of : Bool → List ℕ → Option ℕ
room_of true table = Some (length table)
room_of false table = None

-- the first entries put into it
abbrev pub entered : Bool → List ℕ → List ℕ → List ℕ
entered true passed table = passed ++ drop (length passed) table
entered false passed table = table

-- one entry put into it
abbrev pub entry : Bool → List ℕ → ℕ → ℕ → List ℕ
entry true table n at = set table n at
entry false table n at = table

-- the answer of putting an entry: whether there is room for it; where not, the table stays
pub record EntryPut (lent : Bool) (table : List ℕ) (n at : ℕ) (r : Bool) (after : List ℕ) : Type 0 where
  pub fits : r ≡ has_room (room_of lent table) (n + 1)
  pub entries : after ≡ cond r (entry lent table n at) table

-- the lines before `at` have their offsets in the table so far, and from st the rest of the file gives the whole answer
pub record Here (seal : Seal) (lent : Bool) (file table₀ table : List ℕ) (at : ℕ) (st : State) : Type 0 where
  pub passed : List ℕ
  pub many : length passed ≡ st.flight.lines
  pub offsets : offsets 0 (lines_of file) ≡ passed ++ offsets at (lines_of (drop at file))
  pub entries : table ≡ entered lent passed table₀
  pub room : has_room (room_of lent table₀) st.flight.lines ≡ true
  pub size : length table ≡ length table₀
  pub within : at ≤ length file
  pub lines : st.flight.lines + st.flight.lines ≤ at
  pub count : (f : Family) → count_of f st.flight.counts ≤ st.flight.lines
  pub run : run seal (room_of lent table₀) st (lines_of (drop at file)) ≡ run seal (room_of lent table₀) start (lines_of file)
