-- What holds at each turn of a run: the lines so far are passed, and the pace has the numbers after them. Assumes nothing.
use Rattle.std.specs.Prelude.{Option, Some}
use Prim.Native.Nat.{ℕ, ◌+◌, ◌*◌, ◌≤◌, ◌<◌}
use mathlib.Core.Bool.{Bool, true}
use mathlib.Core.List.{List, [], ◌∷◌}
use mathlib.Core.Path.{◌≡◌, refl, ap, ◌∙◌}
use native.Mathlib.Omega.{arith}
use borrow.Author.Tests.{leb-true}
use lib.Dec.{leb}
use lib.ListN.{length, take, replicate, length-take}
use lib.Seq.{sets, sets-eq, length-sets, take_at}
use Rattle.rules.specs.Layouts.{allowed, entries_of}
use Rattle.rules.specs.declared.Entry.{Entry}
use Rattle.rules.specs.declared.Layout.{Layout}
use Rattle.rules.specs.Roles.{after_h, in_body}
use Rattle.rules.specs.declared.State.{State}
use Rattle.rules.proofs.Inverse.{and_inv}
use Rattle.check_table.specs.Turns.{entry, EntryPut}
use Rattle.check_table.proofs.Counts.{lines_counted}
use Rattle.check_table.proofs.Turns.{put_so, put_fits, put_long, here_next}
use Rattle.check_sure.specs.Sure.{pattern_of}
use Rattle.check_clock.specs.declared.Pace.{Pace}
use Rattle.check_ahead.specs.Paces.{paced, Takes, TakenAs}
use Rattle.check_ahead.specs.Runs.{Ran, Running}
use Rattle.check_ahead.specs.declared.Ahead.{Ahead}

-- the numbers of a state, at a place
abbrev pub pace_of : ℕ → State → Pace
pace_of at st = record { at = at; stage = st.stage; clock = st.clock; lines = st.flight.lines; counts = st.flight.counts }

pub taken_is : {file : List ℕ} {st : State} {p q : Pace} (r : Option Pace) → TakenAs file st p r → r ≡ Some q → Takes file st p q
taken_is r t e = rw e at t

-- ---- the loop's invariant

pub running_first : (lent : Bool) (file table : List ℕ) (from : ℕ) (st : State) (p : Pace) → p ≡ pace_of from st → from ≤ length file → st.points ≡ 0 → after_h ≤ st.stage → st.stage ≤ in_body
    → Running lent file table from st table p
running_first lent file table from st p e w points low high =
    rw e (record { going = record { points = points; low = low; high = high }; long = refl; begun = omega arith; within = w; lines = omega arith; reach = λ seal t₀ h. h })

module _ {lent : Bool} {file table₀ table : List ℕ} {from : ℕ} {st : State} {p : Pace} (g : Running lent file table₀ from st table p) where
  pub running_next : {q : Pace} → Takes file st p q → (r : Bool) (after : List ℕ) → EntryPut lent table p.lines p.at r after → r ≡ true → Running lent file table₀ from st after q
  running_next {q} t r after u e =
      let d = t.passed in
      let n : q.lines ≡ p.lines + 1 = lines_counted d.text (paced st p) (paced st q) d.judged in
      let put : after ≡ entry lent table p.lines p.at = put_so u e in
      record {
        going = record { points = g.going.points; low = omega (arith, t.stage); high = omega (arith, t.stage) };
        long = put_long lent table p.lines p.at after put ∙ g.long;
        begun = omega (arith, g.begun, d.place);
        within = d.within;
        lines = omega (arith, g.lines, d.place, n);
        reach = λ seal t₀ h. let i = g.reach seal t₀ h in here_next i d (put_fits u t₀ i.size e) put;
      }

  pub running_less : {q : Pace} → Takes file st p q → p.at < q.at
  running_less t = omega (arith, t.passed.place)

  -- a run from here on
  pub running_on : {after : List ℕ} {q : Pace} → Running lent file table p.at (paced st p) after q → Running lent file table₀ from st after q
  running_on h =
      record {
        going = record { points = g.going.points; low = h.going.low; high = h.going.high };
        long = h.long ∙ g.long;
        begun = omega (arith, g.begun, h.begun);
        within = h.within;
        lines = omega (arith, g.lines, h.lines);
        reach = λ seal t₀ i. h.reach seal t₀ (g.reach seal t₀ i);
      }

  pub running_end : (table' : List ℕ) → table' ≡ table → (r : Ahead) → r ≡ record { at = p.at; state = paced st p } → Ran lent file table₀ from st r table'
  running_end table' k r e = rw (e, k) (record { onward = g.begun; long = g.long; reach = g.reach })

pub ran_none : (lent : Bool) (file table : List ℕ) (from : ℕ) (st : State) (r : Ahead) → r ≡ record { at = from; state = st } → Ran lent file table from st r table
ran_none lent file table from st r e = rw e (record { onward = omega arith; long = refl; reach = λ seal t₀ h. h })

-- ---- the pattern that was put for a layout

pub pattern_long : (es : List Entry) → length (pattern_of es) ≡ 3 * length es
unfolding pattern_of
pattern_long [] = refl
pattern_long (e ∷ es) = let h = pattern_long es in omega arith

pub count_most : (start : ℕ) (l : Layout) → allowed start l ≡ true → l.count ≤ 13
unfolding allowed
count_most start l a = leb-true l.count 13 (and_inv (leb l.count 13) _ (and_inv _ _ a).0).0

pub pattern_put : (l : Layout) (r : List ℕ) → length l.entries ≡ 13 → l.count ≤ 13 → r ≡ sets (replicate 39 0) 0 (pattern_of (entries_of l)) → take (3 * l.count) r ≡ pattern_of (entries_of l)
pattern_put l r n c e =
    let m : length (entries_of l) ≡ l.count = simp length-take (omega arith) in
    let k : length (pattern_of (entries_of l)) ≡ 3 * l.count = pattern_long (entries_of l) ∙ ap (λ (x : ℕ). 3 * x) m in
    let w : 0 + length (pattern_of (entries_of l)) ≤ length {A = ℕ} (replicate 39 0) = omega arith in
    rw (e, sets-eq (pattern_of (entries_of l)) (replicate 39 0) 0 w) (take_at (pattern_of (entries_of l)) _ (3 * l.count) k)

pub pattern_fits : (l : Layout) (r : List ℕ) → l.count ≤ 13 → r ≡ sets (replicate 39 0) 0 (pattern_of (entries_of l)) → 3 * l.count ≤ length r
pattern_fits l r c e = let n : length r ≡ 39 = rw e (length-sets (replicate 39 0) 0 (pattern_of (entries_of l))) in omega arith
