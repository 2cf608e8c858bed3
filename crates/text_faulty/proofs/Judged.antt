-- The text shown is the one that was judged: of a file that is refused with 4 to 14, the line named is the one that the check refused so, at that byte, in the state that the lines before it left. Assumes nothing.
use Rattle.std.specs.Prelude.{Option}
use Prim.Native.Nat.{ℕ, zero, suc, ◌+◌, ◌-◌, ◌≤◌, ◌<◌}
use mathlib.Core.List.{List}
use mathlib.Core.Path.{◌≡◌, refl}
use native.Mathlib.Omega.{arith}
use borrow.Author.Tests.{ne_eqb}
use lib.Dec.{leb}
use lib.ListN.{length, drop}
use Rattle.rules.specs.Choice.{need}
use Rattle.rules.specs.Refusals.{Said, says, refuses, no, in_line, and_then, number}
use Rattle.rules.specs.Split.{Lines, end, broken, line, lines_of}
use Rattle.rules.specs.Order.{judge, start}
use Rattle.rules.specs.Files.{has_room, run, verdict}
use Rattle.rules.specs.declared.Reason.TheVariants as reason
use Rattle.rules.specs.declared.Flight.{Flight}
use Rattle.rules.specs.declared.Seal.{Seal}
use Rattle.rules.specs.declared.State.{State}
use Rattle.rules_laws.proofs.Chains.{Sure, by_need}
use Rattle.rules_laws.proofs.Counted.{OneMore, judge_counts, finish_by}
use Rattle.text_faulty.specs.Faulty.{text_behind, text_of}

-- the state of the check behind the first i lines, where they pass
abbrev pub behind_lines : State → ℕ → Lines → Said State
behind_lines st zero k = says st
behind_lines st (suc i) end = no reason.BadValue 0
behind_lines st (suc i) (broken n) = no reason.BadValue 0
behind_lines st (suc i) (line t k) = and_then (judge t st) λ after. behind_lines after i k

-- behind `before` lines, in the state st: line l is among the lines k, those before it pass, and its text is then refused so
pub record Judges (st : State) (before : ℕ) (k : Lines) (file : List ℕ) (n l b : ℕ) : Type 0 where
  pub state : State
  pub later : before < l
  pub reached : behind_lines st (l - 1 - before) k ≡ says state
  pub judged : in_line l (judge (text_behind (l - 1 - before) k file) state) ≡ refuses n l b

abbrev Shows : State → ℕ → Lines → List ℕ → Said Flight → Type 0
Shows st before k file (says f) = Unit {0}
Shows st before k file (refuses n l b) = 4 ≤ n → n ≤ 14 → Judges st before k file n l b

-- what is shown behind one line more
further : (t : List ℕ) (k : Lines) (file : List ℕ) (st after : State) (before next : ℕ) → judge t st ≡ says after → next ≡ before + 1 → (s : Said Flight)
    → Shows after next k (drop (length t + 2) file) s → Shows st before (line t k) file s
unfolding text_behind
further t k file st after before next j e (says f) x = tt
further t k file st after before next j e (refuses n l b) x = λ low high.
    let r = x low high in
    let one : l - 1 - before ≡ suc (l - 1 - next) = omega (arith, r.later) in
    record { state = r.state; later = omega (arith, r.later); reached = rw (one, j) r.reached; judged = rw one r.judged }

module _ (seal : Seal) (room : Option ℕ) where
  run_shown : (k : Lines) (file : List ℕ) (st : State) → Shows st st.flight.lines k file (run seal room st k)
  unfolding run number text_behind
  run_shown end file st = finish_by seal st (Shows st st.flight.lines end file) (λ low high. absurd (omega arith)) tt
  run_shown (broken n) file st = λ low high. absurd (omega arith)
  run_shown (line t k) file st = by (judge t st) refl (judge_counts t st) (run_shown k (drop (length t + 2) file))
    where
      by : (j : Said State) → judge t st ≡ j → Sure (OneMore t st) j → ((after : State) → Shows after after.flight.lines k (drop (length t + 2) file) (run seal room after k))
          → Shows st st.flight.lines (line t k) file
          (and_then (in_line (st.flight.lines + 1) j) λ after. need (has_room room after.flight.lines) (refuses (number reason.TableFull) after.flight.lines 0) λ u. run seal room after k)
      by (says after) e q x =
          by_need (Shows st st.flight.lines (line t k) file) (has_room room after.flight.lines) (refuses (number reason.TableFull) after.flight.lines 0) (λ u. run seal room after k)
          (λ low high. absurd (omega arith))
          (further t k file st after st.flight.lines after.flight.lines e q.lines (run seal room after k) (x after))
      by (refuses n l b) e q x = λ low high.
          let none : st.flight.lines + 1 - 1 - st.flight.lines ≡ 0 = omega arith in
          record { state = st; later = omega arith; reached = rw none; judged = rw (none, e) }

  verdict_shown : (file : List ℕ) → Shows start 0 (lines_of file) file (verdict seal file room)
  unfolding verdict number
  verdict_shown file =
      by_need (Shows start 0 (lines_of file) file) (leb 1 (length file)) (no reason.Empty 0) _ (λ low high. absurd (omega arith))
      (by_need (Shows start 0 (lines_of file) file) (leb (length file) 16777216) (no reason.TooLong 0) (λ u. run seal room start (lines_of file)) (λ low high. absurd (omega arith))
      (run_shown (lines_of file) file start))

  pub shown_is_judged : (file : List ℕ) (n l b : ℕ) → verdict seal file room ≡ refuses n l b → 4 ≤ n → n ≤ 14
      → (st : State) × (behind_lines start (l - 1) (lines_of file) ≡ says st) × (in_line l (judge (text_of file l) st) ≡ refuses n l b)
  unfolding text_of
  shown_is_judged file n l b e low high =
      let s : Shows start 0 (lines_of file) file (refuses n l b) = rw e at (verdict_shown file) in
      let r = s low high in
      let some : l ≡ 0 → ⊥ = λ z. omega (arith, r.later) in
      let place : l - 1 - 0 ≡ l - 1 = omega arith in
      (r.state, rw (← place) r.reached, rw (ne_eqb l 0 some, ← place) r.judged)
