-- What a turn means for the rest of the file: a line passed, or a refusal of the whole file in that line. Assumes nothing.
use Rattle.std.specs.Prelude.{Option}
use Prim.Native.Nat.{ℕ, ◌+◌, ◌<◌}
use mathlib.Core.Bool.{Bool, true, false}
use mathlib.Core.List.{List}
use mathlib.Core.Path.{◌≡◌, refl, ap}
use native.Mathlib.Omega.{arith}
use lib.ListN.{length, drop, length-drop}
use Rattle.rules.specs.Choice.{need}
use Rattle.rules.specs.Files.{has_room, run}
use Rattle.rules.specs.Order.{judge}
use Rattle.rules.specs.Refusals.{Said, says, refuses, refusal}
use Rattle.rules.specs.Split.{Lines, end, broken, line, lines_of}
use Rattle.rules.specs.declared.Reason.TheVariants.{TableFull}
use Rattle.rules.specs.declared.Seal.{Seal}
use Rattle.rules.specs.declared.State.{State}
use Rattle.rules_laws.proofs.Splitting.{none_left, line_at}
use Rattle.check_state.specs.States.{in_next}
use Rattle.check_table.specs.Turns.{Passed}
use Rattle.check_table.proofs.Turns.{passed_count}
use Rattle.check_table.specs.declared.Reached.{Reached}
use Rattle.check_table.specs.Entering.{good_line}
use Rattle.check_file.specs.Turns.{turn_in, turn_at, MayTake}
use Rattle.check_file.proofs.Taking.{may_so}

-- the file is refused at the line behind `at` bytes, whatever it must have at its end
pub record Stopped (room : Option ℕ) (file : List ℕ) (at : ℕ) (st : State) (n l b : ℕ) : Type 0 where
  pub line : l ≡ st.flight.lines + 1
  pub run : (seal : Seal) → run seal room st (lines_of (drop at file)) ≡ refuses n l b

-- the line is passed, and the table has an entry for it
pub record Went (room : Option ℕ) (file : List ℕ) (at : ℕ) (st : State) (p : Reached) : Type 0 where
  pub passed : Passed file at st p.at p.state
  pub fits : has_room room (st.flight.lines + 1) ≡ true

-- what follows from a turn
abbrev pub Follows : Option ℕ → List ℕ → ℕ → State → Said Reached → Type 0
Follows room file at st (says p) = Went room file at st p
Follows room file at st (refuses n l b) = Stopped room file at st n l b

module _ (room : Option ℕ) (file : List ℕ) (at : ℕ) (st : State) where
  -- a good line, where the table has an entry left or not
  follows_good : {next : ℕ} {s : State} → Passed file at st next s → (b : Bool) → has_room room (st.flight.lines + 1) ≡ b
      → Follows room file at st (need b (refusal (in_next TableFull 0 st)) λ _. says (record { at = next; state = s }))
  unfolding run
  follows_good p true e = record { passed = p; fits = e }
  follows_good p false e = record { line = refl; run = λ seal. rw (p.lines, p.judged, passed_count p, e) }

  follows_by : at < length file → (k : Lines) → lines_of (drop at file) ≡ k → Follows room file at st (turn_in room at st k)
  unfolding turn_in good_line run
  follows_by h end g = absurd (omega (arith, simp length-drop at (ap length (none_left (drop at file) g))))
  follows_by h (broken n) g = record { line = refl; run = λ seal. rw g }
  follows_by h (line t ls) g = by (judge t st) refl
    where
      by : (x : Said State) → judge t st ≡ x → Follows room file at st (turn_in room at st (line t ls))
      by (says s) e =
          let l = line_at file at t ls g in
          rw e (follows_good (record { text = t; lines = rw l.after g; place = refl; within = l.inside; judged = e }) (has_room room (st.flight.lines + 1)) refl)
      by (refuses n l b) e = rw e (record { line = refl; run = λ seal. rw (g, e) })

  pub turn_follows : MayTake file at st → Follows room file at st (turn_at room file at st)
  unfolding turn_at
  turn_follows t = rw (may_so t) (follows_by t.within (lines_of (drop at file)) refl)
