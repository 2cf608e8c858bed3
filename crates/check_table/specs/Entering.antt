-- What a line that was judged comes to: it is entered in the table, or the check stops there.
use Rattle.std.specs.Prelude.{ℕ, ◌+◌, Bool, List, ◌≡◌, Option, Result}
use Rattle.rules.specs.Choice.{need}
use Rattle.rules.specs.Files.{has_room}
use Rattle.rules.specs.Refusals.{Said, says, no, refusal, in_line, and_then, value_or, result_told}
use Rattle.rules.specs.declared.Reason.TheVariants.{TableFull, BadValue}
use Rattle.rules.specs.declared.Refusal.{Refusal}
use Rattle.rules.specs.declared.State.{State}
use Rattle.check_counts.specs.Counting.{is_few}
use Rattle.check_state.specs.States.{in_next}
use Rattle.check_table.specs.Turns.{room_of, entry}
use Rattle.check_table.specs.declared.Reached.{Reached}

-- "15 TABLE_FULL: good line, no entry left; line, 0": a line after those of st is good and leaves the state `after`
unfoldable pub good_line : Option ℕ → State → ℕ → State → Said Reached
good_line room st next after =
    need (has_room room (st.flight.lines + 1)) (refusal (in_next TableFull 0 st)) λ _.
    says (record { at = next; state = after })

-- a turn that comes to s, and the table afterwards: a good line has its entry, and else the table stays
pub record Turned (s : Said Reached) (lent : Bool) (table : List ℕ) (at : ℕ) (st : State) (r : Result Reached Refusal) (after : List ℕ) : Type 0 where
  pub answer : result_told r ≡ s
  pub entries : after ≡ value_or table (and_then s λ _. says (entry lent table st.flight.lines at))

-- a line that was judged, with the next one behind `next` bytes
abbrev pub left_line : Option ℕ → Result State Refusal → State → ℕ → Said Reached
left_line room j st next = and_then (in_line (st.flight.lines + 1) (result_told j)) λ after. good_line room st next after

-- where the lines are few; another state is a value that is not allowed
unfoldable pub left_few : Option ℕ → Result State Refusal → State → ℕ → Said Reached
left_few room j st next = need (is_few st.flight.lines) (no BadValue 0) λ _. left_line room j st next

abbrev pub LineLeft : Result State Refusal → Bool → List ℕ → ℕ → State → ℕ → Result Reached Refusal → List ℕ → Type 0
LineLeft j lent table at st next r after = Turned (left_few (room_of lent table) j st next) lent table at st r after
