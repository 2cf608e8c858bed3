-- A run of lines that are held against their places: each of them is passed. Assumes nothing.
use Prim.Native.Nat.{ℕ, ◌+◌, ◌≤◌}
use mathlib.Core.Bool.{Bool, true, false, not, cond}
use mathlib.Core.List.{List}
use mathlib.Core.Path.{◌≡◌, refl, ap, ◌∙◌}
use native.Mathlib.Omega.{arith}
use lib.Dec.{leb}
use lib.ListN.{length, drop, length-take}
use Rattle.rules.specs.Families.{first_start, layout_of}
use Rattle.rules.specs.Layouts.{allowed, all_placed, entries_of, empty_layout}
use Rattle.rules.specs.Order.{passing, is_back}
use Rattle.rules.specs.Roles.{in_body}
use Rattle.rules.specs.declared.Extra.TheVariants as extra
use Rattle.rules.specs.declared.Family.{Family}
use Rattle.rules.specs.declared.Family.TheVariants as family
use Rattle.rules.specs.declared.Layout.{Layout}
use Rattle.rules.specs.declared.State.{State}
use Rattle.rules.proofs.Inverse.{and_inv}
use Rattle.check_counts.specs.Counting.{are_few}
use Rattle.check_counts.proofs.Counting.{are_few_lem}
use Rattle.check_table.specs.Turns.{EntryPut}
use Rattle.check_table.proofs.Turns.{put_so, put_long}
use Rattle.check_sure.specs.Sure.{pattern_of}
use Rattle.check_state.specs.States.{Few}
use Rattle.check_places.specs.Places.{end_of, FixPlaces, ExtraPlaces}
use Rattle.check_places.specs.declared.Places.{Places}
use Rattle.check_places.proofs.Good.{Good, good_fix_lem, good_extra_lem, line_ends}
use Rattle.check_clock.specs.declared.Pace.{Pace}
use Rattle.check_ahead.specs.Paces.{paced, Known}
use Rattle.check_ahead.specs.Runs.{Running}
use Rattle.check_ahead.specs.Strides.{Reaches, FixLaid, ExtraLaid, FixKept, ExtraKept, LineTimed, Ready, Strode}
use Rattle.check_ahead.proofs.Lines.{good_taken}
use Rattle.check_ahead.proofs.Runs.{count_most, pattern_long, running_first, running_next, running_on}

-- ---- a line told to be good by its places

all_placed_lem : (start : ℕ) (l : Layout) → allowed start l ≡ true → all_placed (entries_of l) start empty_layout ≡ true
unfolding allowed
all_placed_lem start l a = (and_inv (leb l.count 13) _ (and_inv _ _ a).0).1

few : (start : ℕ) (l : Layout) → allowed start l ≡ true → length (pattern_of (entries_of l)) ≤ 39
few start l a =
    let c = count_most start l a in
    let n : length (entries_of l) ≤ 13 = simp length-take (omega (arith, c)) in
    omega (arith, pattern_long (entries_of l))

module _ (st : State) (size : ℕ) (pattern low span other l : List ℕ) (t : ℕ) (day : t ≤ 86399) where
  fix_good : Known family.B st size pattern → Reaches family.B st size → FixLaid pattern low span other → FixKept size low span other l t → Good family.B l size pattern t
  fix_good k e q d =
      let layout = st.flight.layouts.b in
      let s = d.stand in
      let enough : end_of (entries_of layout) 35 + 2 ≤ s.n = rw e at s.enough in
      rw (e, k.columned)
      (good_fix_lem l (entries_of layout) empty_layout s.n t (few 36 layout k.told) s.most d.secs day (all_placed_lem 36 layout k.told) enough (rw (q.low, q.span, q.other, k.columned) at s.stand) d.below)

  extra_good : Known (family.Extra extra.K) st size pattern → Reaches (family.Extra extra.K) st size → ExtraLaid pattern low span other → ExtraKept size low span other l t → Good (family.Extra extra.K) l size pattern t
  extra_good k e q d =
      let layout = st.flight.layouts.k in
      let s = d.stand in
      let enough : end_of (entries_of layout) 7 + 2 ≤ s.n = rw e at s.enough in
      rw (e, k.columned)
      (good_extra_lem l (entries_of layout) empty_layout s.n t (few 8 layout k.told) s.most d.secs day (all_placed_lem 8 layout k.told) enough (rw (q.low, q.span, q.other, k.columned) at s.stand))

-- ---- a turn of the run

-- the numbers after a B or a K line
abbrev pub stepped : Pace → Bool → ℕ → ℕ → ℕ → Pace
stepped p fix b k t =
    record {
      at = p.at + cond fix b k + 2;
      stage = in_body;
      clock = t;
      lines = p.lines + 1;
      counts = record { b = cond fix (p.counts.b + 1) p.counts.b; k = cond (not fix) (p.counts.k + 1) p.counts.k; n = p.counts.n };
    }

pub width_few : {l low span other low' span' other' : List ℕ} {b k : ℕ} (fix : Bool) (t : ℕ) → LineTimed fix l low span other b low' span' other' k t → t ≤ 86399 → cond fix b k ≤ 110
width_few true t d h = let s = (d.fix refl h).stand in omega (arith, s.enough, s.most)
width_few false t d h = let s = (d.extra refl h).stand in omega (arith, s.enough, s.most)

known_on : {f : Family} {st : State} {size : ℕ} {pattern : List ℕ} (p : Pace) → Known f st size pattern → Known f (paced st p) size pattern
known_on p k = record { told = k.told; sized = k.sized; columned = k.columned }

module _ {lent : Bool} {file table₀ table : List ℕ} {st : State} {p₀ p : Pace} {low span other low' span' other' : List ℕ} {b k : ℕ} where
  pub stride_next : Ready st p₀ low span other b low' span' other' k → Running lent file table₀ p₀.at (paced st p₀) table p → (fix : Bool) (t : ℕ)
      → LineTimed fix (drop p.at file) low span other b low' span' other' k t → t ≤ 86399 → is_back (passing p.clock t) ≡ false
      → (put : Bool) (after : List ℕ) → EntryPut lent table p.lines p.at put after → put ≡ true → Running lent file table₀ p₀.at (paced st p₀) after (stepped p fix b k t)
  stride_next r g true t d h w put after u e =
      let good = fix_good st b r.fixes low span other (drop p.at file) t h r.known r.reached r.places (d.fix refl h) in
      running_next g (good_taken file (paced st p₀) p family.B b r.fixes t g.going (known_on p₀ r.known) good.some good w) put after u e
  stride_next r g false t d h w put after u e =
      let good = extra_good st k r.extras low' span' other' (drop p.at file) t h r.known' r.reached' r.places' (d.extra refl h) in
      running_next g (good_taken file (paced st p₀) p (family.Extra extra.K) k r.extras t g.going (known_on p₀ r.known') good.some good w) put after u e

-- ---- the loop's invariant

pub record Striding (lent : Bool) (file table₀ low span other : List ℕ) (b : ℕ) (low' span' other' : List ℕ) (k : ℕ) (p₀ : Pace) (table : List ℕ) (p : Pace) : Type 0 where
  pub begun : p₀.at ≤ p.at
  pub lines : p.lines + p₀.at ≤ p₀.lines + p.at
  pub fixes : p.counts.b + p₀.at ≤ 16777216 + p.at
  pub extras : p.counts.k + p₀.at ≤ 16777216 + p.at
  pub long : length table ≡ length table₀
  pub reach : (st : State) → Ready st p₀ low span other b low' span' other' k → Running lent file table₀ p₀.at (paced st p₀) table p

module _ {lent : Bool} {file table₀ low span other : List ℕ} {b : ℕ} {low' span' other' : List ℕ} {k : ℕ} {p₀ : Pace} where
  pub striding_first : p₀.at ≤ length file → are_few p₀.counts ≡ true → Striding lent file table₀ low span other b low' span' other' k p₀ table₀ p₀
  striding_first h e =
      record {
        begun = omega arith;
        lines = omega arith;
        fixes = omega (arith, are_few_lem p₀.counts e family.B);
        extras = omega (arith, are_few_lem p₀.counts e (family.Extra extra.K));
        long = refl;
        reach = λ st r. running_first lent file table₀ p₀.at (paced st p₀) p₀ refl h r.going.points r.going.low r.going.high;
      }

  pub strode_none : p₀.at ≤ length file → Strode lent file table₀ low span other b low' span' other' k p₀ p₀ table₀
  strode_none h =
      record { long = refl; reach = λ st r. running_first lent file table₀ p₀.at (paced st p₀) p₀ refl h r.going.points r.going.low r.going.high }

  module _ {table : List ℕ} {p : Pace} (g : Striding lent file table₀ low span other b low' span' other' k p₀ table p) where
    pub striding_next : (fix : Bool) (l : List ℕ) → l ≡ drop p.at file → (t v : ℕ) → LineTimed fix l low span other b low' span' other' k t → v ≡ t → v ≤ 86399 → is_back (passing p.clock t) ≡ false
        → (put : Bool) (after : List ℕ) → EntryPut lent table p.lines p.at put after → put ≡ true → Striding lent file table₀ low span other b low' span' other' k p₀ after (stepped p fix b k v)
    striding_next fix l q t v d e h w put after u z =
        record {
          begun = omega (arith, g.begun);
          lines = omega (arith, g.lines);
          fixes = omega (arith, g.fixes, more fix p.counts.b);
          extras = omega (arith, g.extras, more (not fix) p.counts.k);
          long = put_long lent table p.lines p.at after (put_so u z) ∙ g.long;
          reach = λ st r. stride_next r (g.reach st r) fix v (rw (q, ← e) at d) h (rw (← e) at w) put after u z;
        }
      where
        more : (add : Bool) (n : ℕ) → cond add (n + 1) n ≤ n + 1
        more true n = omega arith
        more false n = omega arith

    pub striding_end : (table' : List ℕ) → table' ≡ table → (r : Pace) → r ≡ p → Strode lent file table₀ low span other b low' span' other' k p₀ r table'
    striding_end table' e r f = rw (e, f) (record { long = g.long; reach = g.reach })

-- ---- a run among others

-- a line of a known length ends where its last column does, the layout being one of 13 entries
pub reaches : {f : Family} {st : State} {size : ℕ} {pattern : List ℕ} → Known f st size pattern → length (layout_of f st.flight.layouts).entries ≡ 13 → Reaches f st size
reaches {f = f} {st = st} k n = k.sized ∙ line_ends (first_start f) (layout_of f st.flight.layouts) n (count_most (first_start f) (layout_of f st.flight.layouts) k.told)

pub fixes_laid : (pattern : List ℕ) (r : Places) → FixPlaces pattern r → FixLaid pattern r.low r.span r.other
fixes_laid pattern r e = record { low = ap (λ (x : Places). x.low) e; span = ap (λ (x : Places). x.span) e; other = ap (λ (x : Places). x.other) e }

pub extras_laid : (pattern : List ℕ) (r : Places) → ExtraPlaces pattern r → ExtraLaid pattern r.low r.span r.other
extras_laid pattern r e = record { low = ap (λ (x : Places). x.low) e; span = ap (λ (x : Places). x.span) e; other = ap (λ (x : Places). x.other) e }

module _ {lent : Bool} {file table₀ table : List ℕ} {from : ℕ} {st : State} {p : Pace} (g : Running lent file table₀ from st table p) where
  module _ {fixes extras low span other : List ℕ} {b : ℕ} {low' span' other' : List ℕ} {k : ℕ} (known : Known family.B st b fixes) (known' : Known (family.Extra extra.K) st k extras)
      (reached : Reaches family.B st b) (reached' : Reaches (family.Extra extra.K) st k)
      (places : FixLaid fixes low span other) (places' : ExtraLaid extras low' span' other') {r : Pace} {table' : List ℕ} (s : Strode lent file table low span other b low' span' other' k p r table') where
    pub strode : Running lent file table p.at (paced st p) table' r
    strode = s.reach st (record { fixes = fixes; extras = extras; going = g.going; known = known; known' = known'; reached = reached; reached' = reached'; places = places; places' = places' })

    pub running_strode : Running lent file table₀ from st table' r
    running_strode = running_on g strode

  pub running_few : length file ≤ 16777216 → Few st → p.lines ≤ 33554432
  running_few h few = omega (arith, g.lines, g.within, few.lines)
