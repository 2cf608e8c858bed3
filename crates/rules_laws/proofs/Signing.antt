-- The check knows that a file is signed exactly where its lines have come past a G line; and the strict check says what the usual one says of a signed file. Assumes nothing.
use Rattle.std.specs.Prelude.{None, Option, Some}
use Prim.Native.Nat.{ℕ, ◌+◌, ◌≤◌}
use mathlib.Core.Bool.{Bool, true, false, ◌||◌, cond}
use mathlib.Core.List.{List}
use mathlib.Core.Path.{◌≡◌, refl, sym, ◌∙◌, ap}
use native.Mathlib.Omega.{arith}
use borrow.Author.Tests.{le-leb, lt-leb, leb-true, leb-false}
use lib.Dec.{leb, eqb}
use lib.ListN.{length}
use Rattle.rules.specs.Choice.{need}
use Rattle.rules.specs.Refusals.{Said, says, refuses, no, in_line, and_then, number}
use Rattle.rules.specs.Roles.{is_sealing, at_start, after_a, after_h, after_layout, in_body, after_g, after_last_g, leading, stage_after}
use Rattle.rules.specs.Split.{Lines, end, broken, line, lines_of}
use Rattle.rules.specs.Order.{order_of, fits_declaration, moved, judge, start}
use Rattle.rules.specs.Files.{finish, has_room, run, verdict}
use Rattle.rules.specs.declared.Reason.TheVariants as reason
use Rattle.rules.specs.declared.Extra.TheVariants as extra
use Rattle.rules.specs.declared.Family.{Family}
use Rattle.rules.specs.declared.Family.TheVariants as family
use Rattle.rules.specs.declared.Flight.{Flight}
use Rattle.rules.specs.declared.Role.{Role}
use Rattle.rules.specs.declared.Role.TheVariants as role
use Rattle.rules.specs.declared.Seal.TheVariants as seal
use Rattle.rules.specs.declared.State.{State}
use Rattle.rules.proofs.Inverse.{none_some, need_inv}
use Rattle.rules_laws.proofs.Passing.{leading_inv, role_in, Leaves, opens, date, header, layout, columned, head, point, event, satellites, differential, seals, remark, other, judged}

-- ---- one line

-- a G line signs the file, and no other line does
record Left (r : Role) (m after : State) : Type 0 where
  signed : after.flight.signed ≡ (is_sealing r || m.flight.signed)
  stage : after.stage ≡ m.stage

left : (l : List ℕ) (m : State) {r : Role} {after : State} → Leaves l m r after → Left r m after
left l m (opens e) = record { signed = refl; stage = refl }
left l m (date d n e) = record { signed = refl; stage = refl }
left l m (header n e) = record { signed = refl; stage = refl }
left l m (layout f i e) = record { signed = refl; stage = refl }
left l m (columned g t e o) = record { signed = refl; stage = refl }
left l m (head h n e) = record { signed = refl; stage = refl }
left l m (point p n e) = record { signed = refl; stage = refl }
left l m (event t e o) = record { signed = refl; stage = refl }
left l m (satellites t e o) = record { signed = refl; stage = refl }
left l m (differential e) = record { signed = refl; stage = refl }
left l m (seals e) = record { signed = refl; stage = refl }
left l m (remark e) = record { signed = refl; stage = refl }
left l m (other e) = record { signed = refl; stage = refl }

pub judged_signed : (l : List ℕ) (st after : State) → judge l st ≡ says after → after.flight.signed ≡ (is_sealing (role_in l) || st.flight.signed)
judged_signed l st after e = let j = judged l st after e in (left l (moved j.stage st) j.left).signed

-- the part of the file behind the first G line is reached by a G line, and is not left again
module _ (s c : ℕ) where
  abbrev Past : Bool → Type 0
  Past b = leb after_g c ≡ (b || leb after_g s)

  before_g : (low high next : ℕ) → high ≤ in_body → next ≤ in_body → leading low high next s ≡ Some c → Past false
  before_g low high next h n o =
      let i = leading_inv low high next s c o in
      lt-leb after_g c (omega (arith, i.2)) ∙ sym (lt-leb after_g s (omega (arith, i.1)))

  remark_past : (b : Bool) → cond b (leading after_h in_body in_body s) (leading after_g after_last_g after_last_g s) ≡ Some c → Past false
  remark_past true o = before_g after_h in_body in_body (omega arith) (omega arith) o
  remark_past false o =
      let i = leading_inv after_g after_last_g after_last_g s c o in
      le-leb after_g c (omega (arith, i.2)) ∙ sym (le-leb after_g s i.0)

  told_early : (f : Family) → after_layout f ≤ in_body
  told_early family.B = omega arith
  told_early (family.Extra extra.K) = omega arith
  told_early (family.Extra extra.N) = omega arith

  past : (r : Role) → stage_after r s ≡ Some c → Past (is_sealing r)
  unfolding stage_after
  past role.Opens o = before_g at_start at_start after_a (omega arith) (omega arith) o
  past role.Heads o = before_g after_a after_h after_h (omega arith) (omega arith) o
  past (role.Tells f) o = before_g after_h _ (after_layout f) (omega (arith, told_early f)) (told_early f) o
  past (role.Columned f) o = before_g after_h in_body in_body (omega arith) (omega arith) o
  past role.Declares o = before_g after_h in_body in_body (omega arith) (omega arith) o
  past role.Event o = before_g after_h in_body in_body (omega arith) (omega arith) o
  past role.Satellites o = before_g after_h in_body in_body (omega arith) (omega arith) o
  past role.Differential o = before_g after_h in_body in_body (omega arith) (omega arith) o
  past role.Seals o = let i = leading_inv after_h after_g after_g s c o in le-leb after_g c (omega (arith, i.2))
  past role.Remark o = remark_past (leb s in_body) o
  past role.Other o = before_g after_h in_body in_body (omega arith) (omega arith) o
  past role.NoRole o = absurd (none_some o)

-- the file is signed so far exactly where its lines have come past a G line
abbrev pub SignedSo : State → Type 0
SignedSo st = st.flight.signed ≡ leb after_g st.stage

pub signed_next : (l : List ℕ) (st after : State) → judge l st ≡ says after → SignedSo st → SignedSo after
unfolding order_of
signed_next l st after e h =
    let j = judged l st after e in
    let w = left l (moved j.stage st) j.left in
    let o = need_inv (fits_declaration _ st) None (Some j.stage) _ none_some j.order in
    w.signed ∙ ap (λ b. is_sealing (role_in l) || b) h ∙ sym (past st.stage j.stage (role_in l) o.1) ∙ ap (leb after_g) (sym w.stage)

-- ---- the whole file

-- what the usual check says, asked of a signed file only: "16 ENDS_EARLY: end .. without G; lines + 1, 0"
unfoldable pub only_signed : Said Flight → Said Flight
only_signed (says f) = cond f.signed (says f) (refuses (number reason.EndsEarly) (f.lines + 1) 0)
only_signed (refuses n l b) = refuses n l b

finish_signed : (st : State) → SignedSo st → finish seal.Strict st ≡ only_signed (finish seal.Usual st)
unfolding finish only_signed
finish_signed st h = by (eqb st.points 0) (leb after_h st.stage) (leb after_g st.stage) refl refl
  where
    by : (a b c : Bool) → leb after_h st.stage ≡ b → leb after_g st.stage ≡ c
        → (need a (refuses (number reason.EndsEarly) (st.flight.lines + 1) 0) λ _. need c (refuses (number reason.EndsEarly) (st.flight.lines + 1) 0) λ _. says st.flight)
        ≡ only_signed (need a (refuses (number reason.EndsEarly) (st.flight.lines + 1) 0) λ _. need b (refuses (number reason.EndsEarly) (st.flight.lines + 1) 0) λ _. says st.flight)
    by false b c p q = refl
    by true true true p q = rw (h, q)
    by true true false p q = rw (h, q)
    by true false true p q = let i = leb-true after_g st.stage q in let j = leb-false after_h st.stage p in absurd (omega arith)
    by true false false p q = refl

module _ (room : Option ℕ) where
  run_signed : (k : Lines) (st : State) → SignedSo st → run seal.Strict room st k ≡ only_signed (run seal.Usual room st k)
  unfolding run only_signed
  run_signed end st h = finish_signed st h
  run_signed (broken m) st h = refl
  run_signed (line t ls) st h = by (judge t st) refl (λ after. run_signed ls after)
    where
      by : (s : Said State) → judge t st ≡ s → ((after : State) → SignedSo after → run seal.Strict room after ls ≡ only_signed (run seal.Usual room after ls))
          → (and_then (in_line (st.flight.lines + 1) s) λ after. need (has_room room after.flight.lines) (refuses (number reason.TableFull) after.flight.lines 0) λ _. run seal.Strict room after ls)
          ≡ only_signed (and_then (in_line (st.flight.lines + 1) s) λ after. need (has_room room after.flight.lines) (refuses (number reason.TableFull) after.flight.lines 0) λ _. run seal.Usual room after ls)
      by (refuses n k b) e next = refl
      by (says after) e next = fits (has_room room after.flight.lines)
        where
          fits : (b : Bool)
              → (need b (refuses (number reason.TableFull) after.flight.lines 0) λ _. run seal.Strict room after ls)
              ≡ only_signed (need b (refuses (number reason.TableFull) after.flight.lines 0) λ _. run seal.Usual room after ls)
          fits true = next after (signed_next t st after e h)
          fits false = refl

  -- "A separate strict check keeps the old rule"
  pub strict_adds : (file : List ℕ) → verdict seal.Strict file room ≡ only_signed (verdict seal.Usual file room)
  unfolding verdict only_signed
  strict_adds file = by (leb 1 (length file)) (leb (length file) 16777216)
    where
      by : (a b : Bool)
          → (need a (no reason.Empty 0) λ _. need b (no reason.TooLong 0) λ _. run seal.Strict room start (lines_of file))
          ≡ only_signed (need a (no reason.Empty 0) λ _. need b (no reason.TooLong 0) λ _. run seal.Usual room start (lines_of file))
      by false b = refl
      by true false = refl
      by true true = run_signed (lines_of file) start refl
