-- Document 01, 'Which kind may follow which', and the time order of 'Fields': one line after those before it.
use Rattle.std.specs.Prelude.{ℕ, ◌+◌, ◌-◌, Bool, true, false, not, ◌&&◌, ◌||◌, cond, List, eqb, leb, ltb, length, get_or, None, Option}
use Rattle.rules.specs.Choice.{given, need, on}
use Rattle.rules.specs.Refusals.{Said, says, no, and_then}
use Rattle.rules.specs.Families.{first_start, layout_of, with_layout, count_of, one_more}
use Rattle.rules.specs.Layouts.{empty_layout}
use Rattle.rules.specs.Lines.{kind_of, a_line, date_line, h_line, layout_line, head_line, point_line, d_line, e_line, f_line, columned_line, l_line, g_line, other_line}
use Rattle.rules.specs.Roles.{role_of, is_role, is_declaring, at_start, stage_after}
use Rattle.rules.specs.declared.Reason.TheVariants as reason
use Rattle.rules.specs.declared.Date.{Date}
use Rattle.rules.specs.declared.Layout.{Layout}
use Rattle.rules.specs.declared.Family.{Family}
use Rattle.rules.specs.declared.Family.TheVariants as family
use Rattle.rules.specs.declared.Head.{Head}
use Rattle.rules.specs.declared.Role.{Role}
use Rattle.rules.specs.declared.Role.TheVariants as role
use Rattle.rules.specs.declared.Flight.{Flight}
use Rattle.rules.specs.declared.State.{State}

-- "At most one declaration (h), begun before the first B: a C head, then at once its point lines": while points are to come only a C line may; else a C line only
-- where there is no declaration and no B line yet
unfoldable pub fits_declaration : Bool → State → Bool
fits_declaration c st =
    cond (leb 1 st.points) c (not c || (not st.declared && eqb (count_of family.B st.flight.counts) 0))

-- the part of the file that a line of this role leads to, where it may come
unfoldable pub order_of : Role → State → Option ℕ
order_of r st = need (fits_declaration (is_declaring r) st) None λ _. stage_after r st.stage

abbrev pub no_date : Date
no_date = record { day = 0; month = 0; year = 0 }

-- beside a refusal; and before the first line, when no G line has come
abbrev pub no_flight : Flight
no_flight = record {
  date = no_date;
  layouts = record { b = empty_layout; k = empty_layout; n = empty_layout };
  lines = 0;
  counts = record { b = 0; k = 0; n = 0 };
  signed = false;
}

-- before the first line; the clock stands at 0, from which no time falls
abbrev pub start : State
start = record { stage = at_start; declared = false; points = 0; clock = 0; flight = no_flight }

-- the state with what is said so far
abbrev pub with_flight : State → Flight → State
with_flight st f = record { stage = st.stage; declared = st.declared; points = st.points; clock = st.clock; flight = f }

-- the state with one line more, in the part of the file that it leads to
abbrev pub moved : ℕ → State → State
moved stage st = record {
  stage = stage;
  declared = st.declared;
  points = st.points;
  clock = st.clock;
  flight = record { date = st.flight.date; layouts = st.flight.layouts; lines = st.flight.lines + 1; counts = st.flight.counts; signed = st.flight.signed };
}

abbrev pub dated : Date → State → State
dated d st = with_flight st (record { date = d; layouts = st.flight.layouts; lines = st.flight.lines; counts = st.flight.counts; signed = st.flight.signed })

-- the layout of a family is told
abbrev pub laid_out : Family → Layout → State → State
laid_out f l st =
    with_flight st (record { date = st.flight.date; layouts = with_layout f l st.flight.layouts; lines = st.flight.lines; counts = st.flight.counts; signed = st.flight.signed })

-- one line of a family more
abbrev pub counted : Family → State → State
counted f st =
    with_flight st (record { date = st.flight.date; layouts = st.flight.layouts; lines = st.flight.lines; counts = one_more f st.flight.counts; signed = st.flight.signed })

-- "'signed' is yes exactly when a G line exists": a G line has come
abbrev pub signed_off : State → State
signed_off st = with_flight st (record { date = st.flight.date; layouts = st.flight.layouts; lines = st.flight.lines; counts = st.flight.counts; signed = true })

-- "its point lines, as many as its turn points plus 4 (take-off, start, finish, landing)"
abbrev pub begun : Head → State → State
begun h st = record { stage = st.stage; declared = true; points = h.turns + 4; clock = st.clock; flight = st.flight }

-- one point fewer to come
abbrev pub pointed : State → State
pointed st = record { stage = st.stage; declared = st.declared; points = st.points - 1; clock = st.clock; flight = st.flight }

abbrev pub clocked : ℕ → State → State
clocked t st = record { stage = st.stage; declared = st.declared; points = st.points; clock = t; flight = st.flight }

-- how a time stands to the one before it
pub data Passing : Type 0 where
  onward next_day back : Passing

-- "A fall of more than 43,200 seconds from the one before counts as the next day; a smaller fall, or one of exactly 43,200, is refused (h). Equal times are fine."
unfoldable pub passing : ℕ → ℕ → Passing
passing before now = cond (leb before now) onward (cond (ltb 43200 (before - now)) next_day back)

abbrev pub is_back : Passing → Bool
is_back onward = false
is_back next_day = false
is_back back = true

-- "B, E, F and K lines run in time order."; N lines with them; "14 BACK: time falls; line, 2"
unfoldable pub timed : ℕ → State → Said State
timed t st = need (not (is_back (passing st.clock t))) (no reason.Back 2) λ _. says (clocked t st)

-- a line of a declaration: a point where points are still to come, else a head
unfoldable pub declaration_line : List ℕ → State → Said State
declaration_line l st = cond (eqb st.points 0) (and_then (head_line l) λ h. says (begun h st)) (and_then (point_line l) λ _. says (pointed st))

-- an H line; line 2 is the date line
unfoldable pub header_line : List ℕ → State → Said State
header_line l st = cond (eqb st.flight.lines 2) (and_then (date_line l) λ d. says (dated d st)) (and_then (h_line l) λ _. says st)

-- A line by its role, and the state after it: 7 to 14.
unfoldable pub ruled : Role → List ℕ → State → Said State
ruled role.Opens l st = and_then (a_line l) λ _. says st
ruled role.Heads l st = header_line l st
ruled (role.Tells f) l st = and_then (layout_line (first_start f) l) λ i. says (laid_out f i st)
ruled (role.Columned f) l st = and_then (columned_line f (layout_of f st.flight.layouts) l) λ t. timed t (counted f st)
ruled role.Declares l st = declaration_line l st
ruled role.Event l st = and_then (e_line l) λ t. timed t st
ruled role.Satellites l st = and_then (f_line l) λ t. timed t st
ruled role.Differential l st = and_then (d_line l) λ _. says st
ruled role.Seals l st = and_then (g_line l) λ _. says (signed_off st)
ruled role.Remark l st = and_then (l_line l) λ _. says st
ruled role.Other l st = and_then (other_line l) λ _. says st
ruled role.NoRole l st = no reason.Kind 1

-- One line after those before it, 4 to 14: "4 EMPTY_LINE: length 0; line, 1", "5 KIND: first byte not A to Z; line, 1", "6 ORDER: kind not allowed here; line, 1".
unfoldable pub judge : List ℕ → State → Said State
judge l st =
    need (leb 1 (length l)) (no reason.EmptyLine 1) λ _.
    on (role_of (kind_of (get_or l 0 0))) λ r.
    need (is_role r) (no reason.Kind 1) λ _.
    given (order_of r st) (no reason.Order 1) λ stage.
    ruled r l (moved stage st)
