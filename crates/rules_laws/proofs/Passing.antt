-- A line that passes, taken apart once: by its role, what its check says of it and the state that it leaves. Everyone else cases on `Leaves`. Assumes nothing.
use Rattle.std.specs.Prelude.{None, Option, Some}
use Prim.Native.Nat.{ℕ, ◌+◌, ◌≤◌}
use mathlib.Core.Bool.{Bool, true, false, not, ◌&&◌, cond}
use mathlib.Core.List.{List, [], ◌∷◌}
use mathlib.Core.Path.{◌≡◌, refl}
use native.Mathlib.Omega.{arith}
use borrow.Author.Tests.{le-leb, leb-true, eqb-true, eqb-false, eq-eqb, ne_eqb, not-true}
use lib.Dec.{leb, eqb}
use lib.ListN.{length, get_or}
use Rattle.rules.specs.Choice.{on}
use Rattle.rules.specs.Families.{first_start, layout_of}
use Rattle.rules.specs.Refusals.{Said, says, in_line, and_then}
use Rattle.rules.specs.Lines.{kind_of, a_line, date_line, h_line, layout_line, head_line, point_line, d_line, e_line, f_line, columned_line, l_line, g_line, other_line}
use Rattle.rules.specs.Roles.{role_of, is_role, after_h, leading}
use Rattle.rules.specs.Order.{order_of, moved, dated, laid_out, counted, signed_off, begun, pointed, clocked, passing, is_back, timed, declaration_line, header_line, ruled, judge}
use Rattle.rules.specs.Split.{Lines, line}
use Rattle.rules.specs.Files.{ends_after, has_room, run}
use Rattle.rules.specs.declared.Date.{Date}
use Rattle.rules.specs.declared.Layout.{Layout}
use Rattle.rules.specs.declared.Family.{Family}
use Rattle.rules.specs.declared.Head.{Head}
use Rattle.rules.specs.declared.Point.{Point}
use Rattle.rules.specs.declared.Role.{Role}
use Rattle.rules.specs.declared.Role.TheVariants as role
use Rattle.rules.specs.declared.Flight.{Flight}
use Rattle.rules.specs.declared.Seal.{Seal}
use Rattle.rules.specs.declared.Seal.TheVariants as seal
use Rattle.rules.specs.declared.State.{State}
use Rattle.rules.proofs.Inverse.{none_some, refuses_says, false_true, given_inv, need_inv, then_inv, and_inv, in_line_inv}

-- ---- the parts of a file

pub leading_so : (low high next stage : ℕ) → low ≤ stage → stage ≤ high → leading low high next stage ≡ Some next
leading_so low high next stage p q = rw (le-leb low stage p, le-leb stage high q)

pub leading_inv : (low high next stage s : ℕ) → leading low high next stage ≡ Some s → (low ≤ stage) × (stage ≤ high) × (next ≡ s)
leading_inv low high next stage s e =
    let n = need_inv (leb low stage && leb stage high) None (Some s) _ none_some e in
    let r = and_inv (leb low stage) (leb stage high) n.0 in
    (leb-true _ _ r.0, leb-true _ _ r.1, cc)

-- whatever a file must have at its end, its front is over there
pub front_over : (seal : Seal) → after_h ≤ ends_after seal
front_over seal.Usual = omega arith
front_over seal.Strict = omega arith

-- ---- a line that passes

-- the role of a line, by its first byte
abbrev pub role_in : List ℕ → Role
role_in l = role_of (kind_of (get_or l 0 0))

-- a time that does not fall, or falls to the next day
abbrev pub Onward : ℕ → ℕ → Type 0
Onward before now = is_back (passing before now) ≡ false

-- the line l of a role passes behind the state m, which counts it already, and leaves the other state
pub data Leaves (l : List ℕ) (m : State) : Role → State → Type 0 where
  opens : a_line l ≡ says tt → Leaves l m role.Opens m
  date : (d : Date) → m.flight.lines ≡ 2 → date_line l ≡ says d → Leaves l m role.Heads (dated d m)
  header : (m.flight.lines ≡ 2 → ⊥) → h_line l ≡ says tt → Leaves l m role.Heads m
  layout : (f : Family) (i : Layout) → layout_line (first_start f) l ≡ says i → Leaves l m (role.Tells f) (laid_out f i m)
  columned : (f : Family) (t : ℕ) → columned_line f (layout_of f m.flight.layouts) l ≡ says t → Onward m.clock t → Leaves l m (role.Columned f) (clocked t (counted f m))
  head : (h : Head) → m.points ≡ 0 → head_line l ≡ says h → Leaves l m role.Declares (begun h m)
  point : (p : Point) → (m.points ≡ 0 → ⊥) → point_line l ≡ says p → Leaves l m role.Declares (pointed m)
  event : (t : ℕ) → e_line l ≡ says t → Onward m.clock t → Leaves l m role.Event (clocked t m)
  satellites : (t : ℕ) → f_line l ≡ says t → Onward m.clock t → Leaves l m role.Satellites (clocked t m)
  differential : d_line l ≡ says tt → Leaves l m role.Differential m
  seals : g_line l ≡ says tt → Leaves l m role.Seals (signed_off m)
  remark : l_line l ≡ says tt → Leaves l m role.Remark m
  other : other_line l ≡ says tt → Leaves l m role.Other m

-- ---- what the rules say is such a line, and such a line is what they say

timed_inv : (t : ℕ) (m after : State) → timed t m ≡ says after → Onward m.clock t × (clocked t m ≡ after)
unfolding timed
timed_inv t m after e =
    let n = need_inv (not (is_back (passing m.clock t))) _ (says after) _ refuses_says e in
    (not-true _ n.0, cc)

module _ (l : List ℕ) (m after : State) where
  abbrev Left : Role → Type 0
  Left r = Leaves l m r after

  quiet : {r : Role} (n : State) (s : Said (Unit {0})) → (s ≡ says tt → Leaves l m r n) → and_then s (λ _. says n) ≡ says after → Left r
  quiet n s f e = let t = then_inv s after _ e in let q : n ≡ after = cc in rw (← q) (f t.1)

  in_time : {r : Role} (s : Said ℕ) (n : State) → ((t : ℕ) → s ≡ says t → Onward n.clock t → Leaves l m r (clocked t n)) → and_then s (λ t. timed t n) ≡ says after → Left r
  in_time s n f e =
      let t = then_inv s after _ e in
      let o = timed_inv t.0 n after t.2 in
      rw (← o.1) (f t.0 t.1 o.0)

  header_there : header_line l m ≡ says after → Left role.Heads
  unfolding header_line
  header_there e = by (eqb m.flight.lines 2) refl e
    where
      by : (b : Bool) → eqb m.flight.lines 2 ≡ b → cond b (and_then (date_line l) λ d. says (dated d m)) (and_then (h_line l) λ _. says m) ≡ says after → Left role.Heads
      by true n e =
          let d = then_inv (date_line l) after _ e in
          let q : dated d.0 m ≡ after = cc in
          rw (← q) (date d.0 (eqb-true m.flight.lines 2 n) d.1)
      by false n e = quiet m (h_line l) (header (eqb-false m.flight.lines 2 n)) e

  declaration_there : declaration_line l m ≡ says after → Left role.Declares
  unfolding declaration_line
  declaration_there e = by (eqb m.points 0) refl e
    where
      by : (b : Bool) → eqb m.points 0 ≡ b → cond b (and_then (head_line l) λ h. says (begun h m)) (and_then (point_line l) λ _. says (pointed m)) ≡ says after → Left role.Declares
      by true n e =
          let h = then_inv (head_line l) after _ e in
          let q : begun h.0 m ≡ after = cc in
          rw (← q) (head h.0 (eqb-true m.points 0 n) h.1)
      by false n e =
          let p = then_inv (point_line l) after _ e in
          let q : pointed m ≡ after = cc in
          rw (← q) (point p.0 (eqb-false m.points 0 n) p.1)

  pub leaves : (r : Role) → ruled r l m ≡ says after → Left r
  unfolding ruled
  leaves role.Opens e = quiet m (a_line l) opens e
  leaves role.Heads e = header_there e
  leaves (role.Tells f) e =
      let i = then_inv (layout_line (first_start f) l) after _ e in
      let q : laid_out f i.0 m ≡ after = cc in
      rw (← q) (layout f i.0 i.1)
  leaves (role.Columned f) e = in_time (columned_line f (layout_of f m.flight.layouts) l) (counted f m) (columned f) e
  leaves role.Declares e = declaration_there e
  leaves role.Event e = in_time (e_line l) m event e
  leaves role.Satellites e = in_time (f_line l) m satellites e
  leaves role.Differential e = quiet m (d_line l) differential e
  leaves role.Seals e = quiet (signed_off m) (g_line l) seals e
  leaves role.Remark e = quiet m (l_line l) remark e
  leaves role.Other e = quiet m (other_line l) other e
  leaves role.NoRole e = absurd (refuses_says e)

onward_timed : (t : ℕ) (m : State) → Onward m.clock t → timed t m ≡ says (clocked t m)
unfolding timed
onward_timed t m o = rw o

pub left_ruled : (l : List ℕ) (m : State) {r : Role} {after : State} → Leaves l m r after → ruled r l m ≡ says after
unfolding ruled header_line declaration_line
left_ruled l m (opens e) = rw e
left_ruled l m (date d n e) = rw (eq-eqb m.flight.lines 2 n, e)
left_ruled l m (header n e) = rw (ne_eqb m.flight.lines 2 n, e)
left_ruled l m (layout f i e) = rw e
left_ruled l m (columned f t e o) = rw e (onward_timed t (counted f m) o)
left_ruled l m (head h n e) = rw (eq-eqb m.points 0 n, e)
left_ruled l m (point p n e) = rw (ne_eqb m.points 0 n, e)
left_ruled l m (event t e o) = rw e (onward_timed t m o)
left_ruled l m (satellites t e o) = rw e (onward_timed t m o)
left_ruled l m (differential e) = rw e
left_ruled l m (seals e) = rw e
left_ruled l m (remark e) = rw e
left_ruled l m (other e) = rw e

-- ---- the line judged

-- a line with a role has bytes
pub not_empty : (l : List ℕ) → is_role (role_in l) ≡ true → 1 ≤ length l
unfolding kind_of
not_empty [] h = absurd (false_true h)
not_empty (b ∷ l) h = omega arith

pub record Judged (l : List ℕ) (st after : State) : Type 0 where
  pub long : 1 ≤ length l
  pub known : is_role (role_in l) ≡ true
  pub stage : ℕ
  pub order : order_of (role_in l) st ≡ Some stage
  pub left : Leaves l (moved stage st) (role_in l) after

pub judged : (l : List ℕ) (st after : State) → judge l st ≡ says after → Judged l st after
unfolding judge on
judged l st after e =
    let n = need_inv (leb 1 (length l)) _ (says after) _ refuses_says e in
    let k = need_inv (is_role (role_in l)) _ (says after) _ refuses_says n.1 in
    let o = given_inv (order_of (role_in l) st) _ (says after) _ refuses_says k.1 in
    record {
      long = leb-true 1 (length l) n.0;
      known = k.0;
      stage = o.0;
      order = o.1;
      left = leaves l (moved o.0 st) after (role_in l) o.2;
    }

pub judged_so : (l : List ℕ) (st after : State) → Judged l st after → judge l st ≡ says after
unfolding judge on
judged_so l st after j = rw (le-leb 1 (length l) j.long, j.known, j.order) (left_ruled l (moved j.stage st) j.left)

-- ---- the lines one after the other

pub record Goes (seal : Seal) (room : Option ℕ) (st : State) (t : List ℕ) (ls : Lines) (f : Flight) : Type 0 where
  pub after : State
  pub judges : judge t st ≡ says after
  pub fits : has_room room after.flight.lines ≡ true
  pub runs : run seal room after ls ≡ says f

module _ (seal : Seal) (room : Option ℕ) (st : State) (t : List ℕ) (ls : Lines) (f : Flight) where
  pub ran : run seal room st (line t ls) ≡ says f → Goes seal room st t ls f
  unfolding run
  ran e =
      let a = then_inv (in_line (st.flight.lines + 1) (judge t st)) f _ e in
      let n = need_inv (has_room room a.0.flight.lines) _ (says f) _ refuses_says a.2 in
      record { after = a.0; judges = in_line_inv _ (judge t st) a.0 a.1; fits = n.0; runs = n.1 }

  pub ran_so : Goes seal room st t ls f → run seal room st (line t ls) ≡ says f
  unfolding run
  ran_so r = rw (r.judges, r.fits) r.runs
