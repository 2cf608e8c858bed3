-- Laws of a turn: a line cut off and judged, or torn, is what the turn says of the lines. Assumes nothing.
use Rattle.rules.specs.declared.Refusal.{Refusal}
use Rattle.std.specs.Prelude.{Option, Result}
use Prim.Native.Nat.{ℕ, ◌+◌, ◌-◌}
use mathlib.Core.Bool.{true, ◌&&◌}
use mathlib.Core.List.{List}
use mathlib.Core.Path.{◌≡◌}
use native.Mathlib.Omega.{arith}
use borrow.Author.Tests.{le-leb, leb-true}
use lib.Dec.{leb}
use lib.ListN.{length, take, drop, length-drop, length-take}
use Rattle.rules.specs.Order.{judge}
use Rattle.rules.specs.Refusals.{Said, in_line, and_then, result_told}
use Rattle.rules.specs.Split.{lines_of}
use Rattle.rules.specs.declared.State.{State}
use Rattle.rules.specs.declared.Reason.TheVariants.{LineEnd}
use Rattle.rules.proofs.Inverse.{and_inv}
use Rattle.file_lines.proofs.Cuts.{Cut, Torn}
use Rattle.check_state.specs.States.{Few, has_few}
use Rattle.check_state.proofs.States.{few_has, has_few_lem}
use Rattle.check_settle.specs.Settled.{JudgedTold, RefusedAt}
use Rattle.check_judge.specs.Lines.{judge_few}
use Rattle.check_judge.proofs.Judging.{judge_few_lem}
use Rattle.check_table.specs.declared.Reached.{Reached}
use Rattle.check_table.specs.Entering.{good_line, left_few}
use Rattle.check_table.proofs.Entering.{left_few_lem}
use Rattle.check_file.specs.Turns.{turn_in, may_take, MayTake}

-- ---- a place where a line may be taken

pub may_so : {file : List ℕ} {at : ℕ} {st : State} → MayTake file at st → may_take file at st ≡ true
unfolding may_take
may_so {file} {at} {st} t = rw (le-leb (at + 1) (length file) (omega (arith, t.within)), le-leb _ _ t.size, few_has st t.few)

pub may_known : (file : List ℕ) (at : ℕ) (st : State) → may_take file at st ≡ true → MayTake file at st
unfolding may_take
may_known file at st e =
    let p = and_inv (leb (at + 1) (length file)) (leb (length file) 16777216 && has_few st) e in
    let q = and_inv (leb (length file) 16777216) (has_few st) p.1 in
    record { within = omega (arith, leb-true (at + 1) (length file) p.0); size = leb-true _ _ q.0; few = has_few_lem st q.1 }

-- ---- a line judged, as the code has it

as_judged : (n : ℕ) (x : Said State) (j : Result State Refusal) (f : State → Said Reached) → JudgedTold x j → and_then (in_line n x) f ≡ and_then (in_line n (result_told j)) f
as_judged n x j f t = rw t

-- a line that is cut off and judged
pub turn_line : {file : List ℕ} {at e : ℕ} (room : Option ℕ) (st : State) → Few st → Cut file at e → (j : Result State Refusal) → JudgedTold (judge_few (take (e - at) (drop at file)) st) j
    → turn_in room at st (lines_of (drop at file)) ≡ left_few room j st (e + 2)
unfolding turn_in
turn_line {file} {at} {e} room st few k j t =
    let long : at + length (take (e - at) (drop at file)) ≡ e = simp (length-take, length-drop) (omega (arith, k.start, k.fits)) in
    rw (left_few_lem room j st (e + 2) few.lines, k.lines, long) (as_judged (st.flight.lines + 1) (judge (take (e - at) (drop at file)) st) j (good_line room st (e + 2)) (rw (judge_few_lem (take (e - at) (drop at file)) st few) at t))

-- one that is torn
pub turn_torn : {file : List ℕ} {at e : ℕ} (room : Option ℕ) (st : State) → Few st → Torn file at e → (j : Result State Refusal) (next : ℕ) → RefusedAt LineEnd (e - at + 1) j
    → turn_in room at st (lines_of (drop at file)) ≡ left_few room j st next
unfolding turn_in
turn_torn room st few k j next t = rw (left_few_lem room j st next few.lines, k.lines, t)
