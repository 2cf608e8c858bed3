-- The promises of the state that the lines so far have left: before the first line, and what a line changes in it. Where the count that would move is not few, the
-- state stays as it is.
use Rattle.std.specs.Prelude.{ℕ, ◌+◌, ◌≤◌, Bool, ◌&&◌, cond, ◌≡◌}
use Rattle.rules.specs.Families.{layout_of, count_of}
use Rattle.rules.specs.Order.{no_flight, start, with_flight, moved, dated, laid_out, signed_off, begun, pointed, clocked}
use Rattle.rules.specs.declared.Date.{Date}
use Rattle.rules.specs.declared.Family.{Family}
use Rattle.rules.specs.declared.Flight.{Flight}
use Rattle.rules.specs.declared.Head.{Head}
use Rattle.rules.specs.declared.Layout.{Layout}
use Rattle.rules.specs.declared.Layouts.{Layouts}
use Rattle.rules.specs.declared.Reason.{Reason}
use Rattle.rules.specs.declared.Refusal.{Refusal}
use Rattle.rules.specs.declared.State.{State}
use Rattle.check_counts.specs.Counting.{is_few, are_few, more_of}

-- ---- counts that are few

pub record Few (st : State) : Type 0 where
  pub lines : st.flight.lines ≤ 16777216
  pub count : (f : Family) → count_of f st.flight.counts ≤ 16777216

unfoldable pub has_few : State → Bool
has_few st = is_few st.flight.lines && are_few st.flight.counts

abbrev pub FewTest : State → Bool → Type 0
FewTest st r = r ≡ has_few st

-- ---- the state before the first line, and what a line changes in it

abbrev pub NoFlight : Flight → Type 0
NoFlight r = r ≡ no_flight

abbrev pub BeforeAll : State → Type 0
BeforeAll r = r ≡ start

abbrev pub moved_to : ℕ → State → State
moved_to stage st = cond (is_few st.flight.lines) (moved stage st) st

abbrev pub Moved : ℕ → State → State → Type 0
Moved stage st r = r ≡ moved_to stage st

abbrev pub Dated : Date → State → State → Type 0
Dated date st r = r ≡ dated date st

abbrev pub LayoutKept : Family → Layouts → Layout → Type 0
LayoutKept f ls r = r ≡ layout_of f ls

abbrev pub LaidOut : Family → Layout → State → State → Type 0
LaidOut f layout st r = r ≡ laid_out f layout st

abbrev pub counted_in : Family → State → State
counted_in f st =
    with_flight st (record { date = st.flight.date; layouts = st.flight.layouts; lines = st.flight.lines; counts = more_of f st.flight.counts; signed = st.flight.signed })

abbrev pub CountedIn : Family → State → State → Type 0
CountedIn f st r = r ≡ counted_in f st

abbrev pub SignedOff : State → State → Type 0
SignedOff st r = r ≡ signed_off st

abbrev pub Begun : Head → State → State → Type 0
Begun head st r = r ≡ begun head st

-- none fewer than 0
abbrev pub Pointed : State → State → Type 0
Pointed st r = r ≡ pointed st

abbrev pub Clocked : ℕ → State → State → Type 0
Clocked t st r = r ≡ clocked t st

-- ---- where the check stops

-- a refusal in the line that comes next
abbrev pub in_next : Reason → ℕ → State → Refusal
in_next reason byte st = record { reason = reason; line = st.flight.lines + 1; byte = byte }
