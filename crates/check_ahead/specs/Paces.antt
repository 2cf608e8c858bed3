-- A line taken by the numbers that it moves.
use Rattle.std.specs.Prelude.{ℕ, ◌≤◌, true, List, ◌≡◌, length, get_or, None, Option, Some}
use Rattle.rules.specs.Families.{first_start, line_letter, layout_of}
use Rattle.rules.specs.Roles.{after_h, in_body}
use Rattle.rules.specs.Layouts.{allowed, line_length, entries_of}
use Rattle.rules.specs.Order.{judge}
use Rattle.rules.specs.Refusals.{says}
use Rattle.rules.specs.declared.Family.{Family}
use Rattle.rules.specs.declared.Extra.TheVariants as extra
use Rattle.rules.specs.declared.Family.TheVariants as family
use Rattle.rules.specs.declared.State.{State}
use Rattle.check_table.specs.Turns.{Passed}
use Rattle.byte_sweep.specs.Plain.{is_mild, every}
use Rattle.check_sure.specs.Sure.{pattern_of}
use Rattle.check_clock.specs.declared.Pace.{Pace}

-- the state with the numbers of a pace
abbrev pub paced : State → Pace → State
paced st p = record {
  stage = p.stage;
  declared = st.declared;
  points = st.points;
  clock = p.clock;
  flight = record { date = st.flight.date; layouts = st.flight.layouts; lines = p.lines; counts = p.counts; signed = st.flight.signed };
}

-- ---- a line taken

-- body lines may come
pub record Going (st : State) (p : Pace) : Type 0 where
  pub points : st.points ≡ 0
  pub low : after_h ≤ p.stage
  pub high : p.stage ≤ in_body

-- what a run knows of the lines of a family: their layout is allowed, and gives their length and pattern
pub record Known (f : Family) (st : State) (size : ℕ) (pattern : List ℕ) : Type 0 where
  pub told : allowed (first_start f) (layout_of f st.flight.layouts) ≡ true
  pub sized : size ≡ line_length (first_start f) (layout_of f st.flight.layouts)
  pub columned : pattern ≡ pattern_of (entries_of (layout_of f st.flight.layouts))

-- the line is good, and q has the numbers after it
pub record Judges (l : List ℕ) (st : State) (p : Pace) (next : ℕ) (q : Pace) : Type 0 where
  pub judged : judge l (paced st p) ≡ says (paced st q)
  pub at : q.at ≡ next
  pub stage : q.stage ≡ in_body

abbrev pub JudgedAs : List ℕ → State → Pace → ℕ → Option Pace → Type 0
JudgedAs l st p next (Some q) = Judges l st p next q
JudgedAs l st p next None = Unit {0}

-- the same, and the line's bytes are all mild
abbrev pub MildAs : List ℕ → State → Pace → ℕ → Option Pace → Type 0
MildAs l st p next (Some q) = Judges l st p next q × (every is_mild l ≡ true)
MildAs l st p next None = Unit {0}

-- a line of a family, wherever it may come and its columns are known
abbrev pub ColumnedTold : Family → List ℕ → ℕ → List ℕ → Pace → ℕ → Option Pace → Type 0
ColumnedTold f l size pattern p next r =
    (st : State) → Going st p → Known f st size pattern → get_or l 0 0 ≡ line_letter f → 1 ≤ length l → MildAs l st p next r

-- any other line, wherever it may come
abbrev pub OtherTold : ℕ → List ℕ → Pace → ℕ → Option Pace → Type 0
OtherTold letter l p next r = (st : State) → Going st p → get_or l 0 0 ≡ letter → 1 ≤ length l → JudgedAs l st p next r

-- the line behind the pace's bytes is passed
pub record Takes (file : List ℕ) (st : State) (p q : Pace) : Type 0 where
  pub passed : Passed file p.at (paced st p) q.at (paced st q)
  pub stage : q.stage ≡ in_body

abbrev pub TakenAs : List ℕ → State → Pace → Option Pace → Type 0
TakenAs file st p (Some q) = Takes file st p q
TakenAs file st p None = Unit {0}

abbrev pub FamilyTaken : Family → List ℕ → Pace → ℕ → List ℕ → Option Pace → Type 0
FamilyTaken f file p size pattern r = (st : State) → Going st p → Known f st size pattern → TakenAs file st p r

abbrev pub OtherTaken : List ℕ → Pace → Option Pace → Type 0
OtherTaken file p r = (st : State) → Going st p → TakenAs file st p r

abbrev pub LineTaken : List ℕ → Pace → ℕ → List ℕ → ℕ → List ℕ → ℕ → List ℕ → Option Pace → Type 0
LineTaken file p b fixes k extras n unsigned r =
    (st : State) → Going st p → Known family.B st b fixes → Known (family.Extra extra.K) st k extras → Known (family.Extra extra.N) st n unsigned → TakenAs file st p r
