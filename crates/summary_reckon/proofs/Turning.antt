-- The turns of the two loops, over the fixes of a run and over the runs: what is left to be told from here gives the whole answer. Assumes nothing.
use Rattle.std.specs.Int.{div_ceil}
use Prim.Native.Nat.{ℕ, min, suc, ◌+◌, ◌*◌, ◌-◌, ◌≤◌, ◌<◌}
use mathlib.Core.Bool.{Bool, true, false, cond}
use mathlib.Core.List.{List}
use mathlib.Core.Path.{◌≡◌, refl, ap, ◌∙◌}
use native.Mathlib.Omega.{arith}
use borrow.Author.Tests.{lt-ltb, le-ltb, ltb-true, ltb-false}
use lib.Dec.{leb, ltb}
use lib.IntN.{ℤ}
use lib.ListN.{length}
use lib.Seq.{sets, length-sets}
use Rattle.rules.proofs.Inverse.{by_bool}
use Rattle.track_rules.specs.declared.FixStep.{FixStep}
use Rattle.track_rules.specs.declared.Progress.{Progress}
use Rattle.summary_span.specs.Sums.{no_sum, joined}
use Rattle.summary_span.specs.declared.Sum.{Sum}
use Rattle.summary_slots.specs.Slots.{numbers_of, put_at}
use Rattle.summary_fix.specs.Spots.{alone_of}
use Rattle.track_rules.specs.Stored.{fixes_from}
use Rattle.summary_reckon.specs.Filled.{sum_over, next_run, put_from, stepped, leg_of, turned_leg, turned_list, whole_from, list_from, filled}
use Rattle.summary_reckon.specs.Summary.{runs_of}
use Rattle.summary_reckon.specs.declared.Leg.{Leg}

-- as many runs as hold all fixes
pub runs_up : (n : ℕ) → div_ceil n 256 ≡ runs_of n
runs_up n = omega arith

pub next_up : (left : ℕ) → min left 256 ≡ next_run left
unfolding next_run
next_up left = by_bool (ltb 256 left) (λ e. let h = ltb-true 256 left e in rw e (omega arith)) (λ e. let h = ltb-false 256 left e in rw e (omega arith))

-- ---- the list keeps its length

pub length_put : (at : ℕ) (ns list : List ℤ) → length (put_at at ns list) ≡ length list
unfolding put_at
length_put at ns list = by (leb (at + length ns) (length list))
  where
    by : (b : Bool) → length (cond b (sets list at ns) list) ≡ length list
    by true = length-sets list at ns
    by false = refl

pub length_from : (keep k n : ℕ) (s : Sum) (list : List ℤ) → length (put_from keep k n s list) ≡ length list
unfolding put_from
length_from keep k n s list = by (ltb k keep)
  where
    by : (b : Bool) → length (cond b list (put_at (12 + 12 * k) (numbers_of n s) list)) ≡ length list
    by true = refl
    by false = length_put (12 + 12 * k) (numbers_of n s) list

pub put_length : (at : ℕ) (ns list after : List ℤ) → after ≡ put_at at ns list → length after ≡ length list
put_length at ns list after e = ap length e ∙ length_put at ns list

-- ---- a run at its place, or kept

module _ (keep k n : ℕ) (s : Sum) (list : List ℤ) where
  pub run_kept : k < keep → list ≡ put_from keep k n s list
  unfolding put_from
  run_kept h = rw (lt-ltb k keep h)

  pub run_put_lem : (after : List ℤ) → keep ≤ k → after ≡ put_at (12 + 12 * k) (numbers_of n s) list → after ≡ put_from keep k n s list
  unfolding put_from
  run_put_lem after h e = rw (le-ltb k keep h) e

module _ (step : Progress → FixStep) where
  -- ---- the fixes of a run

  pub record Joins (from : Progress) (n : ℕ) (sum : Sum) (next : Progress) (i : ℕ) : Type 0 where
    pub told : sum_over sum (fixes_from step next (n - i)) ≡ sum_over no_sum (fixes_from step from n)
    pub place : stepped step next (n - i) ≡ stepped step from n
    pub within : i ≤ n

  module _ (from : Progress) (n : ℕ) where
    pub joins_first : (sum : Sum) → sum ≡ no_sum → Joins from n sum from 0
    joins_first sum e = let z : n - 0 ≡ n = omega arith in record { told = rw (z, e); place = rw z; within = omega arith }

    module _ (sum : Sum) (next : Progress) (i : ℕ) (w : Joins from n sum next i) where
      pub joins_next : i < n → (x : FixStep) (one s : Sum) → x ≡ step next → one ≡ alone_of x.found → s ≡ joined sum one → Joins from n s x.next (i + 1)
      unfolding fixes_from stepped
      joins_next h x one s e f g =
          let z : n - i ≡ suc (n - (i + 1)) = omega arith in
          let t = rw z at w.told in
          let p = rw z at w.place in
          record { told = rw (g, f, e) t; place = rw e p; within = omega arith }

      pub joins_last : n ≤ i → ◌≡◌ {A = Leg} (record { sum = sum; next = next }) (leg_of step from n)
      unfolding fixes_from stepped
      joins_last h =
          let z : n - i ≡ 0 = omega arith in
          let t : sum ≡ sum_over no_sum (fixes_from step from n) = rw z at w.told in
          let p : next ≡ stepped step from n = rw z at w.place in
          λ j. record { sum = t j; next = p j }

  -- ---- a run

  module _ (left : ℕ) (whole : Leg) where
    pub turn_leg : (n : ℕ) (run : Leg) (s : Sum) → n ≡ next_run left → run ≡ leg_of step whole.next n → s ≡ joined whole.sum run.sum → ◌≡◌ {A = Leg} (record { sum = s; next = run.next }) (turned_leg step left whole)
    unfolding turned_leg
    turn_leg n run s e f g = rw (g, f, e)

    pub turn_list : (keep k n : ℕ) (run : Leg) (list after : List ℤ) → n ≡ next_run left → run ≡ leg_of step whole.next n → after ≡ put_from keep k n run.sum list → after ≡ turned_list step keep k left whole list
    unfolding turned_list
    turn_list keep k n run list after e f g = g ∙ rw (f, e)

  -- ---- the runs

  abbrev first_leg : Progress → Leg
  first_leg start = record { sum = no_sum; next = start }

  pub record Fills (start : Progress) (count keep : ℕ) (lent list : List ℤ) (whole : Leg) (k : ℕ) : Type 0 where
    pub listed : list_from step keep (runs_of count - k) k (count - 256 * k) whole list ≡ list_from step keep (runs_of count) 0 count (first_leg start) lent
    pub summed : whole_from step (runs_of count - k) (count - 256 * k) whole ≡ whole_from step (runs_of count) count (first_leg start)
    pub within : k ≤ runs_of count
    pub long : length list ≡ length lent

  module _ (start : Progress) (count keep : ℕ) (lent : List ℤ) where
    pub fills_first : (s : Sum) → s ≡ no_sum → Fills start count keep lent lent (record { sum = s; next = start }) 0
    fills_first s e =
        let z : runs_of count - 0 ≡ runs_of count = omega arith in
        let y : count - 256 * 0 ≡ count = omega arith in
        record { listed = rw (z, y, e); summed = rw (z, y, e); within = omega arith; long = refl }

    module _ (list : List ℤ) (whole : Leg) (k : ℕ) (w : Fills start count keep lent list whole k) where
      pub fills_next : k < runs_of count → (leg : Leg) (after : List ℤ) → leg ≡ turned_leg step (count - 256 * k) whole → after ≡ turned_list step keep k (count - 256 * k) whole list
          → Fills start count keep lent after leg (k + 1)
      unfolding list_from whole_from turned_list
      fills_next h leg after e f =
          let z : runs_of count - k ≡ suc (runs_of count - (k + 1)) = omega arith in
          let y : count - 256 * (k + 1) ≡ count - 256 * k - 256 = omega arith in
          let l = rw z at w.listed in
          let s = rw z at w.summed in
          let n = length_from keep k (next_run (count - 256 * k)) (leg_of step whole.next (next_run (count - 256 * k))).sum list in
          record { listed = rw (y, e, f) l; summed = rw (y, e) s; within = omega arith; long = ap length f ∙ n ∙ w.long }

      pub fills_last : runs_of count ≤ k → (after : List ℤ) → after ≡ put_at 0 (numbers_of count whole.sum) list → after ≡ filled step start count keep lent
      unfolding list_from whole_from filled
      fills_last h after e =
          let z : runs_of count - k ≡ 0 = omega arith in
          let l : list ≡ list_from step keep (runs_of count) 0 count (first_leg start) lent = rw z at w.listed in
          let s : whole.sum ≡ whole_from step (runs_of count) count (first_leg start) = rw z at w.summed in
          e ∙ rw (l, s)
