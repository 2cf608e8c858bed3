-- Along a track days never fall, and within a day times never fall. Assumes nothing.
use Rattle.std.specs.Prelude.{Some}
use Prim.Native.Nat.{ℕ, ◌-◌, ◌≤◌, ◌<◌}
use Prim.Native.Char.{code}
use mathlib.Core.Bool.{Bool, true, false, cond}
use mathlib.Core.List.{List, ◌++◌}
use mathlib.Core.Logic.{◌⊎◌, inl, inr}
use mathlib.Core.Path.{◌≡◌, refl, sym, ◌∙◌}
use native.Mathlib.Omega.{arith}
use borrow.Author.Tests.{eqb-true, eqb-false, leb-true}
use lib.Dec.{eqb, leb, ltb}
use lib.ListN.{get_or}
use Rattle.rules.specs.Choice.{on, Each}
use Rattle.rules.specs.Fixes.{plain_time, fields_of}
use Rattle.rules.specs.Order.{onward, next_day, back, passing, is_back, judge}
use Rattle.rules.specs.Reads.{fix_said}
use Rattle.rules.specs.Refusals.{says}
use Rattle.rules.specs.Roles.{is_timed}
use Rattle.rules.specs.Split.{Lines, end, broken, line}
use Rattle.rules.specs.Walk.{Walk, time_on, day_after, walked}
use Rattle.rules.specs.declared.Fix.{Fix}
use Rattle.rules.specs.declared.Flight.{Flight}
use Rattle.rules.specs.declared.Layout.{Layout}
use Rattle.rules.specs.declared.Layouts.{Layouts}
use Rattle.rules.specs.declared.Seal.{Seal}
use Rattle.rules.specs.declared.State.{State}
use Rattle.rules.proofs.Inverse.{false_true}
use Rattle.rules_laws.proofs.Passing.{role_in, Onward}
use Rattle.rules_laws.proofs.Walking.{InStep, both_go}
use Rattle.rules_trips.proofs.Each.{each_map}
use Rattle.track_rules.specs.Track.{record_of, records_of, track_from}
use Rattle.track_rules.specs.declared.Record.{Record}
use Rattle.track.proofs.Stepping.{other_said, fixed}
use Rattle.claims_track.specs.Mapped.{Ordered}
use Rattle.claims_track.proofs.Records.{passed_timed, Good, Next, next}

-- on a later day, or on the same day and no earlier
abbrev Later : ℕ → ℕ → ℕ → ℕ → Type 0
Later d t d' t' = (d < d') ⊎ ((d ≡ d') × (t ≤ t'))

later_on : (d t d' t' d'' t'' : ℕ) → Later d t d' t' → Later d' t' d'' t'' → Later d t d'' t''
later_on d t d' t' d'' t'' (inl a) (inl b) = inl (omega arith)
later_on d t d' t' d'' t'' (inl a) (inr b) = inl (omega (arith, b.0))
later_on d t d' t' d'' t'' (inr a) (inl b) = inl (omega (arith, a.0))
later_on d t d' t' d'' t'' (inr a) (inr b) = inr (a.0 ∙ b.0, omega (arith, a.1, b.1))

-- a time that is onward from the clock
onward_later : (c t day : ℕ) → Onward c t → Later day c (day_after (passing c t) day) t
unfolding passing
onward_later c t day o = by (leb c t) refl (ltb 43200 (c - t)) o
  where
    by : (x : Bool) → leb c t ≡ x → (y : Bool) → is_back (cond x onward (cond y next_day back)) ≡ false → Later day c (day_after (cond x onward (cond y next_day back)) day) t
    by true e y o = inr (refl, leb-true c t e)
    by false e true o = inl (omega arith)
    by false e false o = absurd (false_true (sym o))

module _ (seal : Seal) (layouts : Layouts) (f : Flight) where
  abbrev layout : Layout
  layout = layouts.b

  -- a walk over a line that passes
  goes_later : (l : List ℕ) (st after : State) (w : Walk) → judge l st ≡ says after → InStep w st → Later w.day w.clock (walked l w).day (walked l w).clock
  goes_later l st after w e h = by (is_timed (role_in l)) refl
    where
      by : (b : Bool) → is_timed (role_in l) ≡ b → Later w.day w.clock (walked l w).day (walked l w).clock
      by true n =
          let t = passed_timed l st after e n in
          let o : Onward w.clock t.0 = rw h.clock t.2 in
          rw (n, t.1) (onward_later w.clock t.0 w.day o)
      by false n = rw n (inr (refl, omega arith))

  abbrev Behind : Walk → Record → Type 0
  Behind w r = Later w.day w.clock r.day (plain_time r.fix)

  -- the time of a line that reads as a fix is the fix's plain time
  plain_time_lem : (t : List ℕ) (g : Fix) → fix_said t layout ≡ says g → time_on t ≡ Some (plain_time g)
  unfolding fields_of
  plain_time_lem t g e = (fixed layout t g e).time

  -- the record of a line, where the walk has passed it
  own : (t : List ℕ) (w : Walk) (g : Fix) → fix_said t layout ≡ says g → Behind (walked t w) (record_of (walked t w) g)
  own t w g e = let x = plain_time_lem t g e in rw x (inr (refl, omega arith))

  abbrev InOrder : Walk → List Record → Type 0
  InOrder w rs = Each (Behind w) rs × Ordered rs

  pub in_order : (k : Lines) (w : Walk) (st : State) → Good seal layouts f st k → InStep w st → InOrder w (track_from layout w k)
  unfolding track_from on
  in_order end w st g h = (tt, tt)
  in_order (broken n) w st g h = (tt, tt)
  in_order (line t ls) w st g h =
      let x = next seal layouts f st t ls g in
      by (eqb (get_or t 0 0) (code "B")) refl x (goes_later t st x.after w x.judges h) (in_order ls (walked t w) x.after x.good (both_go t st x.after w x.judges h))
    where
      before : (rs : List Record) → Later w.day w.clock (walked t w).day (walked t w).clock → Each (Behind (walked t w)) rs → Each (Behind w) rs
      before rs m e = each_map rs (λ r b. later_on _ _ _ _ _ _ m b) e

      by : (b : Bool) → eqb (get_or t 0 0) (code "B") ≡ b → Next seal layouts f st t ls → Later w.day w.clock (walked t w).day (walked t w).clock → InOrder (walked t w) (track_from layout (walked t w) ls)
          → InOrder w (records_of (walked t w) (fix_said t layout) ++ track_from layout (walked t w) ls)
      by false e x m later = rw (other_said layout t (eqb-false (get_or t 0 0) (code "B") e) (walked t w)) (before (track_from layout (walked t w) ls) m later.0, later.1)
      by true e x m later =
          let g = x.fix (eqb-true (get_or t 0 0) (code "B") e) in
          let c : plain_time g.0 ≡ (walked t w).clock = let y = plain_time_lem t g.0 g.2 in rw y in
          let o = own t w g.0 g.2 in
          rw g.2 (
            (later_on _ _ _ _ _ _ m o, before (track_from layout (walked t w) ls) m later.0),
            (each_map (track_from layout (walked t w) ls) (λ r b. rw c b) later.0, later.1),
          )
