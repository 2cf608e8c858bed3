-- Laws of the check: a turn that goes on keeps what holds at each turn, and each way out of the loop is the whole answer. Assumes nothing.
use Rattle.std.specs.Prelude.{Err, Ok, Option, Some, Result}
use Prim.Native.Nat.{ℕ, ◌+◌, ◌≤◌, ◌<◌}
use mathlib.Core.Bool.{Bool, true, false, cond}
use mathlib.Core.List.{List}
use mathlib.Core.Path.{◌≡◌, refl, sym, ap, subst, ◌∙◌}
use native.Mathlib.Omega.{arith}
use borrow.Author.Tests.{le-leb}
use lib.Dec.{eqb, leb}
use lib.ListN.{length, drop, drop_of_length-le}
use lib.Seq.{take_at}
use Rattle.rules.specs.Choice.{need}
use Rattle.rules.specs.Files.{ends_after, finish, run, verdict, good_lines, table_after, CheckedTold}
use Rattle.rules.specs.Refusals.{number, Said, says, refuses, no, refusal, result_told}
use Rattle.rules.specs.Split.{lines_of, offsets}
use Rattle.rules.specs.declared.Checked.{Checked}
use Rattle.rules.specs.declared.Flight.{Flight}
use Rattle.rules.specs.declared.Reason.{Reason}
use Rattle.rules.specs.declared.Reason.TheVariants.{EndsEarly}
use Rattle.rules.specs.declared.Refusal.{Refusal}
use Rattle.rules.specs.declared.Seal.{Seal}
use Rattle.rules.specs.declared.State.{State}
use Rattle.file_lines.specs.Ends.{unplaced}
use Rattle.file_lines.proofs.Places.{refuses_unplaced}
use Rattle.check_table.specs.Turns.{room_of, entered, Here}
use Rattle.check_table.proofs.Turns.{put_long, here_few, here_next}
use Rattle.check_table.specs.Entering.{Turned}
use Rattle.check_table.specs.declared.Reached.{Reached}
use Rattle.check_file.specs.Turns.{turn_at, TurnTaken}
use Rattle.check_finish.specs.Finishes.{Finished}
use Rattle.check_finish.proofs.Finishing.{finish_few_lem}
use Rattle.check_file.specs.Checks.{LinesChecked}
use Rattle.check_file.proofs.Turns.{Follows, turn_follows}

-- ---- the end of the file

all_by : (st : State) (x y : Bool) → good_lines (need x (refuses (number EndsEarly) (st.flight.lines + 1) 0) λ _. need y (refuses (number EndsEarly) (st.flight.lines + 1) 0) λ _. says st.flight) ≡ st.flight.lines
unfolding good_lines
all_by st true true = refl
all_by st true false = omega arith
all_by st false y = omega arith

all_lines : (seal : Seal) (st : State) → good_lines (finish seal st) ≡ st.flight.lines
unfolding finish
all_lines seal st = all_by st (eqb st.points 0) (leb (ends_after seal) st.stage)

-- ---- at each turn

-- what holds at the next turn, which stands further on
pub record Onward (seal : Seal) (lent : Bool) (file table₀ after : List ℕ) (at : ℕ) (r : Reached) : Type 0 where
  pub here : Here seal lent file table₀ after r.at r.state
  pub less : at < r.at

module _ {seal : Seal} {lent : Bool} {file table₀ table : List ℕ} {at : ℕ} {st : State} (h : Here seal lent file table₀ table at st) where
  abbrev room : Option ℕ
  room = room_of lent table₀

  -- a table keeps its room
  room_kept : (b : Bool) → room_of b table ≡ room_of b table₀
  room_kept true = ap Some h.size
  room_kept false = refl

  entries_are : (b : Bool) (v : Said Flight) → verdict seal file (room_of b table₀) ≡ v → good_lines v ≡ st.flight.lines → table ≡ entered b h.passed table₀
      → table ≡ cond b (table_after seal file table₀) table₀
  unfolding table_after
  entries_are true v e g t = rw (e, g, h.offsets, take_at h.passed (offsets at (lines_of (drop at file))) st.flight.lines h.many) t
  entries_are false v e g t = t

  module _ (one : 1 ≤ length file) (most : length file ≤ 16777216) where
    whole : (x : Said Flight) → run seal room st (lines_of (drop at file)) ≡ x → verdict seal file room ≡ x
    unfolding verdict
    whole x e = rw (le-leb 1 (length file) one, le-leb (length file) 16777216 most) (sym h.run ∙ e)

    -- an answer on the rest of the lines is one on the file, and the table stays as it is
    told : (x : Said Flight) → run seal room st (lines_of (drop at file)) ≡ x → good_lines x ≡ st.flight.lines → (r : Checked) → CheckedTold x r
        → LinesChecked seal lent file table₀ r table
    told x e g r t = record { told = rw (whole x e) t; entries = entries_are lent x (whole x e) g h.entries }

    pub here_end : length file ≤ at → (r : Checked) → Finished seal st r → LinesChecked seal lent file table₀ r table
    unfolding run lines_of
    here_end l r t = told (finish seal st) (rw (drop_of_length-le file l)) (all_lines seal st) r (rw (finish_few_lem seal st (here_few h most).lines) at t)

    module _ (less : at < length file) {r : Result Reached Refusal} {after : List ℕ} (t : TurnTaken file lent table at st r after) where
      follows : Follows room file at st (turn_at (room_of lent table) file at st)
      follows = rw (room_kept lent) (turn_follows room file at st (record { within = less; size = most; few = here_few h most }))

      goes : (s : Said Reached) → Follows room file at st s → Turned s lent table at st r after → (v : Reached) → r ≡ Ok v → Onward seal lent file table₀ after at v
      unfolding result_told
      goes (says p) f u v e =
          let g : says v ≡ says p = rw e at u.answer in
          let same : p ≡ v = cc in
          subst (Onward seal lent file table₀ after at) same (record { here = here_next h f.passed f.fits u.entries; less = omega (arith, f.passed.place) })
      goes (refuses n l b) f u v e = let g = rw e at u.answer in let z : ◌≡◌ {A = ℕ} 0 1 = cc in absurd (omega arith)

      stops : (s : Said Reached) → Follows room file at st s → Turned s lent table at st r after → (why : Refusal) → r ≡ Err why → (c : Checked) → CheckedTold (refusal why) c
          → LinesChecked seal lent file table₀ c after
      unfolding good_lines result_told
      stops (says p) f u why e c k = let g = rw e at u.answer in let z : ◌≡◌ {A = ℕ} 0 1 = cc in absurd (omega arith)
      stops (refuses n l b) f u why e c k =
          let g = rw e at u.answer in
          let w : ◌≡◌ {A = Said Flight} (refuses n l b) (refusal why) = cc in
          rw u.entries (told (refuses n l b) (f.run seal) (omega (arith, f.line)) c (rw w k))

      long : (s : Said Reached) → Turned s lent table at st r after → length after ≡ length table₀
      long (says p) u = put_long lent table st.flight.lines at after u.entries ∙ h.size
      long (refuses n l b) u = ap length u.entries ∙ h.size

      pub here_long : length after ≡ length table₀
      here_long = long (turn_at (room_of lent table) file at st) t

      pub here_on : (v : Reached) → r ≡ Ok v → Onward seal lent file table₀ after at v
      here_on v e = goes (turn_at (room_of lent table) file at st) follows t v e

      pub here_stop : (why : Refusal) → r ≡ Err why → (c : Checked) → CheckedTold (refusal why) c → LinesChecked seal lent file table₀ c after
      here_stop why e c k = stops (turn_at (room_of lent table) file at st) follows t why e c k

stays : (seal : Seal) (file table : List ℕ) (reason : Reason) → verdict seal file (Some (length table)) ≡ no reason 0 → table_after seal file table ≡ table
unfolding table_after good_lines
stays seal file table reason e = rw e

-- a file of no bytes, or too many, leaves the table
pub unread : (seal : Seal) (lent : Bool) (file table : List ℕ) (reason : Reason) (why : Refusal) (r : Checked) → ((room : Option ℕ) → verdict seal file room ≡ no reason 0) → why ≡ unplaced reason → CheckedTold (refusal why) r
    → LinesChecked seal lent file table r table
unread seal lent file table reason why r e w t = record { told = rw (e (room_of lent table), ← refuses_unplaced reason why w) t; entries = by lent }
  where
    by : (b : Bool) → table ≡ cond b (table_after seal file table) table
    by true = sym (stays seal file table reason (e (Some (length table))))
    by false = refl
