-- A walk over the lines of a file keeps step with its check: a line that passes has the time that the walk reads, and leaves the clock and the count of lines that the walk
-- has. Days rise at a fall of more than 43,200 seconds alone. Assumes nothing.
use Rattle.std.specs.Prelude.{None, Option, Some}
use Prim.Native.Nat.{ℕ, ◌+◌, ◌-◌, ◌%◌}
use Prim.Native.Char.{code}
use Prim.Native.String.{String}
use mathlib.Core.Bool.{false, cond}
use mathlib.Core.List.{List, [], ◌∷◌}
use mathlib.Core.Path.{◌≡◌, refl, sym, ap, ◌∙◌}
use lib.Dec.{eqb}
use lib.ListN.{length, get_or, drop}
use Rattle.rules.specs.Choice.{given, on, bytes}
use Rattle.rules.specs.Chars.{codes_at}
use Rattle.rules.specs.Fields.{time_at, latitude_at, longitude_at, altitude_at, is_either}
use Rattle.rules.specs.Layouts.{columns}
use Rattle.rules.specs.Listed.{off_limit}
use Rattle.rules.specs.Lines.{bad_pair, shaped, shaped_by, fix_fields, at_limit, b_line, extra_line, e_line, f_line, columned_line}
use Rattle.rules.specs.Order.{moved, judge, start}
use Rattle.rules.specs.Refusals.{says}
use Rattle.rules.specs.Roles.{is_timed}
use Rattle.rules.specs.Walk.{Walk, set_out, time_on, walked_by, walked}
use Rattle.rules.specs.declared.Family.{Family}
use Rattle.rules.specs.declared.Family.TheVariants as family
use Rattle.rules.specs.declared.FixFields.{FixFields}
use Rattle.rules.specs.declared.Layout.{Layout}
use Rattle.rules.specs.declared.Role.{Role}
use Rattle.rules.specs.declared.State.{State}
use Rattle.rules.proofs.Computed.{everything}
use Rattle.rules.proofs.Inverse.{refuses_says, given_inv, given_none, need_inv, then_inv}
use Rattle.rules_laws.proofs.Passing.{Leaves, judged}
use Rattle.rules_laws.proofs.Passing as passes
use Rattle.rules_laws.proofs.Counted.{judged_more}

-- ---- the time of a line that passes stands at 2 to 7

fix_time : (l : List ℕ) (f : FixFields) → fix_fields l ≡ says f → time_at l 1 ≡ Some f.time
unfolding fix_fields on
fix_time l f e =
    let t = given_inv (time_at l 1) _ (says f) _ refuses_says e in
    let lat = given_inv (latitude_at l 7) _ (says f) _ refuses_says t.2 in
    let lon = given_inv (longitude_at l 15) _ (says f) _ refuses_says lat.2 in
    let v = need_inv (is_either (get_or l 24 0) (code "A") (code "V")) _ (says f) _ refuses_says lon.2 in
    let p = given_inv (altitude_at l 25) _ (says f) _ refuses_says v.1 in
    let g = given_inv (altitude_at l 30) _ (says f) _ refuses_says p.2 in
    let i : t.0 ≡ f.time = cc in
    t.1 ∙ ap Some i

pub columned_time : (f : Family) (layout : Layout) (t : ℕ) (l : List ℕ) → columned_line f layout l ≡ says t → time_at l 1 ≡ Some t
unfolding columned_line b_line extra_line
columned_time family.B layout t l e =
    let r = then_inv (b_line layout l) t _ e in
    let s = then_inv (shaped_by 36 layout l) r.0 _ r.1 in
    let x = then_inv (fix_fields l) r.0 _ s.2 in
    let c = then_inv (columns (at_limit x.0) l layout) r.0 _ x.2 in
    let i : x.0.time ≡ t = cc in
    fix_time l x.0 x.1 ∙ ap Some i
columned_time (family.Extra x) layout t l e =
    let s = then_inv (shaped_by 8 layout l) t _ e in
    let x = given_inv (time_at l 1) _ (says t) _ refuses_says s.2 in
    let c = then_inv (columns off_limit l layout) t _ x.2 in
    let i : x.0 ≡ t = cc in
    x.1 ∙ ap Some i

pub event_time : (t : ℕ) (l : List ℕ) → e_line l ≡ says t → time_at l 1 ≡ Some t
unfolding e_line
event_time t l e =
    let s = then_inv (shaped 10 255 false l) t _ e in
    let x = given_inv (time_at l 1) _ (says t) _ refuses_says s.2 in
    let c = need_inv (codes_at l 7 3) _ (says t) _ refuses_says x.2 in
    let i : x.0 ≡ t = cc in
    x.1 ∙ ap Some i

pub satellites_time : (t : ℕ) (l : List ℕ) → f_line l ≡ says t → time_at l 1 ≡ Some t
unfolding f_line
satellites_time t l e =
    let s = then_inv (shaped 7 255 false l) t _ e in
    let x = given_inv (time_at l 1) _ (says t) _ refuses_says s.2 in
    let n = need_inv (eqb ((length l - 7) % 2) 0) _ (says t) _ refuses_says x.2 in
    let p = given_none (bad_pair 7 (drop 7 l)) (says x.0) (says t) _ (λ v. refuses_says) n.1 in
    let i : x.0 ≡ t = cc in
    x.1 ∙ ap Some i

-- ---- the clock that a line leaves, by its role

pub left_clock : (l : List ℕ) (m : State) {r : Role} {after : State} → Leaves l m r after → after.clock ≡ given (cond (is_timed r) (time_at l 1) None) m.clock (λ t. t)
left_clock l m (passes.opens e) = refl
left_clock l m (passes.date d n e) = refl
left_clock l m (passes.header n e) = refl
left_clock l m (passes.layout f i e) = refl
left_clock l m (passes.columned f t e o) = rw (columned_time f _ t l e)
left_clock l m (passes.head h n e) = refl
left_clock l m (passes.point p n e) = refl
left_clock l m (passes.event t e o) = rw (event_time t l e)
left_clock l m (passes.satellites t e o) = rw (satellites_time t l e)
left_clock l m (passes.differential e) = refl
left_clock l m (passes.seals e) = refl
left_clock l m (passes.remark e) = refl
left_clock l m (passes.other e) = refl

-- ---- the walk and the check

-- as many lines passed, and the same clock
pub record InStep (w : Walk) (st : State) : Type 0 where
  pub lines : w.lines ≡ st.flight.lines
  pub clock : w.clock ≡ st.clock

pub both_start : InStep set_out start
both_start = record { lines = refl; clock = refl }

pub both_go : (l : List ℕ) (st after : State) (w : Walk) → judge l st ≡ says after → InStep w st → InStep (walked l w) after
both_go l st after w e h =
    let j = judged l st after e in
    record {
      lines = lines (time_on l) ∙ sym (judged_more l st after e).lines;
      clock = clock (time_on l) ∙ sym (left_clock l (moved j.stage st) j.left);
    }
  where
    lines : (o : Option ℕ) → (walked_by o w).lines ≡ st.flight.lines + 1
    lines None = ap (λ (n : ℕ). n + 1) h.lines
    lines (Some t) = ap (λ (n : ℕ). n + 1) h.lines

    clock : (o : Option ℕ) → (walked_by o w).clock ≡ given o st.clock (λ t. t)
    clock None = h.clock
    clock (Some t) = refl

-- ---- days counted

-- the day behind these lines
unfoldable pub day_behind : Walk → List String → ℕ
day_behind w [] = w.day
day_behind w (t ∷ ts) = day_behind (walked (bytes t) w) ts

-- "The day number rises at each fall over 43,200 along the time order, E, F, K and N lines counted too.": 235958 then 000001; 120001 then 000000, by lines of every timed kind;
-- equal times; a fall of exactly 43,200; other lines between; "235960 then 000000 passes as the next day"
pub record DaysCounted : Type 0 where
  pub midnight : day_behind set_out ("K235958" ∷ "K000001" ∷ []) ≡ 1
  pub other_kinds : day_behind set_out ("E120001PEV" ∷ "F000000" ∷ "K120001" ∷ "B0000005130000N00015000WA0010000120" ∷ []) ≡ 2
  pub equal : day_behind set_out ("K120000" ∷ "K120000" ∷ []) ≡ 0
  pub exactly : day_behind set_out ("K120000" ∷ "K000000" ∷ []) ≡ 0
  pub untimed : day_behind set_out ("K235959" ∷ "LXYZ000000" ∷ "K000000" ∷ []) ≡ 1
  pub leap : day_behind set_out ("K235959" ∷ "K235960" ∷ "K000000" ∷ []) ≡ 1

pub days_counted : DaysCounted
unfolding everything day_behind
days_counted = record { midnight = refl; other_kinds = refl; equal = refl; exactly = refl; untimed = refl; leap = refl }
