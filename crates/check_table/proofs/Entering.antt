-- What a turn comes to, as the code has it: a line entered, a table that is full, a check that stops. Assumes nothing.
use Rattle.std.specs.Prelude.{Err, Ok, Option, Result}
use Prim.Native.Nat.{ℕ, ◌≤◌}
use mathlib.Core.Bool.{Bool, true, false}
use mathlib.Core.List.{List}
use mathlib.Core.Path.{◌≡◌, refl}
use borrow.Author.Tests.{le-leb}
use Rattle.rules.specs.Refusals.{Said, refusal, result_told}
use Rattle.rules.specs.declared.State.{State}
use Rattle.rules.specs.declared.Reason.TheVariants.{TableFull}
use Rattle.rules.specs.declared.Refusal.{Refusal}
use Rattle.check_state.specs.States.{in_next}
use Rattle.check_table.specs.Turns.{room_of, EntryPut}
use Rattle.check_table.specs.Entering.{good_line, left_line, left_few, Turned}
use Rattle.check_table.specs.declared.Reached.{Reached}
use Rattle.check_table.proofs.Turns.{put_so, put_none, put_fits, put_full}

module _ {lent : Bool} {table : List ℕ} {at : ℕ} (st : State) where
  -- the check stops, and the table stays
  pub halts : {s : Said Reached} {after : List ℕ} (why : Refusal) → s ≡ refusal why → after ≡ table → Turned s lent table at st (Err why) after
  unfolding result_told
  halts why q t = rw q (record { answer = refl; entries = t })

  module _ {put : Bool} {after : List ℕ} (u : EntryPut lent table st.flight.lines at put after) (next : ℕ) (s : State) where
    pub enters : put ≡ true → Turned (good_line (room_of lent table) st next s) lent table at st (Ok (record { at = next; state = s })) after
    unfolding good_line result_told
    enters e = rw (put_fits u table refl e) (record { answer = refl; entries = put_so u e })

    pub full : put ≡ false → (why : Refusal) → why ≡ in_next TableFull 0 st → Turned (good_line (room_of lent table) st next s) lent table at st (Err why) after
    unfolding good_line
    full e why q = halts why (rw (put_full u table refl e, q)) (put_none u e)

-- where the lines are few, a line is left as the turn says
pub left_few_lem : (room : Option ℕ) (j : Result State Refusal) (st : State) (next : ℕ) → st.flight.lines ≤ 16777216 → left_few room j st next ≡ left_line room j st next
unfolding left_few
left_few_lem room j st next h = rw (le-leb _ _ h)
