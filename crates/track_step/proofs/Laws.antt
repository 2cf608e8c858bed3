-- A role that no arm of a `match` took, a line that a file has room for, numbers that are few, and the fields of a B line read. Assumes nothing.
use Rattle.std.specs.Prelude.{Err, None, Ok, Option, Result, Some}
use Prim.Native.Nat.{ℕ, ◌+◌, ◌-◌, ◌≤◌, ◌<◌}
use mathlib.Core.Bool.{Bool, true, false, not, ◌&&◌, ◌||◌}
use Prim.Native.Char.{code}
use mathlib.Core.List.{List}
use mathlib.Core.Path.{◌≡◌, refl, sym, ◌∙◌, ap}
use native.Mathlib.Omega.{arith}
use borrow.Author.Tests.{le-leb, lt-leb, leb-true, leb-false, eq-eqb, ne_eqb, eqb-true, not-true, not-false}
use lib.Dec.{eqb, leb}
use lib.ListN.{length, get_or, drop}
use Rattle.rules.proofs.Inverse.{and_inv}
use Rattle.rules.specs.Fields.{time_at, most_latitude, most_longitude}
use Rattle.rules.specs.Fixes.{digits_at, refined}
use Rattle.rules.specs.Numbers.{spell, number_at}
use Rattle.rules.specs.Refusals.{says, result_told}
use Rattle.rules.specs.Choice.{on, part}
use Rattle.rules.specs.Lines.{kind_of, fix_fields}
use Rattle.rules.specs.Split.{lines_of}
use Rattle.rules.specs.Order.{passing}
use Rattle.rules.specs.Roles.{role_of, is_timed}
use Rattle.rules.specs.Walk.{time_on, day_after}
use Rattle.rules.specs.declared.Family.{Family}
use Rattle.rules.specs.declared.Finer.{Finer}
use Rattle.rules.specs.declared.Fix.{Fix}
use Rattle.rules.specs.declared.FixFields.{FixFields}
use Rattle.rules.specs.declared.Kind.{Kind}
use Rattle.rules.specs.declared.Reach.{Reach}
use Rattle.rules.specs.declared.Refusal.{Refusal}
use Rattle.rules.specs.declared.Role.{Role}
use Rattle.rules.specs.declared.Role.TheVariants as role
use Rattle.line_finer.specs.Within.{within, time_within, position_within, fix_within}
use Rattle.line_finer.proofs.Laws.{decimals_none}
use Rattle.track_rules.specs.Track.{record_of}
use Rattle.track_step.specs.Steps.{walk_of, behind, skipped, no_fix, passed_by, passed_as, read_at, is_few, Few, NoFiner, Limited, step_of}
use Rattle.track_rules.specs.declared.FixStep.{FixStep}
use Rattle.track_rules.specs.declared.Progress.{Progress}
use Rattle.track_rules.specs.declared.Record.{Record}

-- the roles that have no time
pub no_time : (r : Role) → ((f : Family) → r ≡ role.Columned f → ⊥) → (r ≡ role.Event → ⊥) → (r ≡ role.Satellites → ⊥) → false ≡ is_timed r
no_time role.Opens c e s = refl
no_time role.Heads c e s = refl
no_time (role.Tells f) c e s = refl
no_time (role.Columned f) c e s = absurd (c f refl)
no_time role.Declares c e s = refl
no_time role.Event c e s = absurd (e refl)
no_time role.Satellites c e s = absurd (s refl)
no_time role.Differential c e s = refl
no_time role.Seals c e s = refl
no_time role.Remark c e s = refl
no_time role.Other c e s = refl
no_time role.NoRole c e s = refl

-- room for a line and its CR LF, by differences that do not wrap
module _ (len at size : ℕ) where
  pub room_none : len < 2 → false ≡ leb (at + size + 2) len
  room_none h = sym (lt-leb (at + size + 2) len (omega arith))

  pub room_late : 2 ≤ len → len - 2 < at → false ≡ leb (at + size + 2) len
  room_late h g = sym (lt-leb (at + size + 2) len (omega arith))

  pub room_is : 2 ≤ len → at ≤ len - 2 → leb size (len - 2 - at) ≡ leb (at + size + 2) len
  room_is h g = by (leb size (len - 2 - at)) refl
    where
      by : (t : Bool) → leb size (len - 2 - at) ≡ t → t ≡ leb (at + size + 2) len
      by true e = sym (le-leb (at + size + 2) len (omega (arith, leb-true size (len - 2 - at) e)))
      by false e = sym (lt-leb (at + size + 2) len (omega (arith, leb-false size (len - 2 - at) e)))

  pub room_so : (r : Bool) → r ≡ leb (at + size + 2) len → not r ≡ false → at + size + 2 ≤ len
  room_so r e g = leb-true (at + size + 2) len (sym e ∙ not-false r g)

-- numbers that are few
module _ (len : ℕ) (p : Progress) where
  pub few_bytes : 16777216 < len → false ≡ is_few len p
  unfolding is_few
  few_bytes h = rw (lt-leb len 16777216 h)

  pub few_lines : len ≤ 16777216 → 16777216 < p.lines → false ≡ is_few len p
  unfolding is_few
  few_lines h g = rw (le-leb len 16777216 h, lt-leb p.lines 16777216 g)

  pub few_days : len ≤ 16777216 → p.lines ≤ 16777216 → leb p.day 16777216 ≡ is_few len p
  unfolding is_few
  few_days h g = rw (le-leb len 16777216 h, le-leb p.lines 16777216 g)

-- the time of a line, by its first byte
module _ (l : List ℕ) (b : ℕ) (k : Kind) (r : Role) (x : Bool) (e : b ≡ get_or l 0 0) (g : k ≡ kind_of b) (h : r ≡ role_of k) (t : x ≡ is_timed r) where
  is_x : is_timed (role_of (kind_of (get_or l 0 0))) ≡ x
  is_x = sym (t ∙ ap is_timed (h ∙ ap role_of (g ∙ ap kind_of e)))

  pub time_nowhere : x ≡ false → None ≡ time_on l
  time_nowhere n = rw (is_x, n)

  pub time_there : (o : Option ℕ) → x ≡ true → o ≡ time_at l 1 → o ≡ time_on l
  time_there o n q = rw (is_x, n) q

-- behind a line
module _ (time : Option ℕ) (p : Progress) (next : ℕ) where
  pub behind_untimed : time ≡ None → record { at = next; lines = p.lines + 1; clock = p.clock; day = p.day; size = p.size; finer = p.finer } ≡ behind (time) p next
  behind_untimed e = rw e

  pub behind_timed : (t day : ℕ) → time ≡ Some t → day ≡ day_after (passing p.clock t) p.day
      → record { at = next; lines = p.lines + 1; clock = t; day = day; size = p.size; finer = p.finer } ≡ behind (time) p next
  behind_timed t day e g = rw (e, g)

pub few_is : (len : ℕ) (p : Progress) → is_few len p ≡ true → Few len p
unfolding is_few
few_is len p e =
    let a = and_inv (leb len 16777216 && leb p.lines 16777216) (leb p.day 16777216) e in
    let b = and_inv (leb len 16777216) (leb p.lines 16777216) a.0 in
    record { bytes = leb-true _ _ b.0; lines = leb-true _ _ b.1; day = leb-true _ _ a.1 }

-- the B line at a place
module _ (file : List ℕ) (p : Progress) (r : Bool) (x : FixStep) (e : r ≡ leb (p.at + p.size + 2) (length file)) where
  pub read_none : not r ≡ true → x ≡ no_fix p → x ≡ read_at file p
  unfolding read_at
  read_none n g = rw (← e, not-true r n) g

  module _ (n : not r ≡ false) where
    pub read_other : (get_or file p.at 0 ≡ code "B" → ⊥) → x ≡ no_fix p → x ≡ read_at file p
    unfolding read_at
    read_other d g = rw (← e, not-false r n, ne_eqb (get_or file p.at 0) (code "B") d) g

    pub read_so : get_or file p.at 0 ≡ code "B"
        → x ≡ passed_as (part p.at (p.at + p.size) file) p (p.at + p.size + 2) (fix_fields (part p.at (p.at + p.size) file)) → x ≡ read_at file p
    unfolding read_at on
    read_so b h = rw (← e, not-false r n, eq-eqb (get_or file p.at 0) (code "B") b) h

-- a B line by its fields
module _ (l : List ℕ) (p : Progress) (next : ℕ) (x : FixStep) where
  pub read_known : (v : FixFields) → fix_fields l ≡ says v → x ≡ passed_by l p next v → x ≡ passed_as l p next (fix_fields l)
  read_known v e h = rw e h

  module _ (f : Result FixFields Refusal) (g : result_told f ≡ fix_fields l) where
    pub read_refused : (w : Refusal) → f ≡ Err w → x ≡ no_fix p → x ≡ passed_as l p next (fix_fields l)
    unfolding result_told
    read_refused w k h = rw (← g, k) h

    pub read_is : (v : FixFields) → f ≡ Ok v → x ≡ passed_by l p next v → x ≡ passed_as l p next (fix_fields l)
    unfolding result_told
    read_is v k h = rw (← g, k) h

-- a line without columns of finer digits
none_of : (x y z : Bool) → (not x || not y || not z) ≡ false → (x ≡ true) × (y ≡ true) × (z ≡ true)
none_of true true true e = (refl, refl, refl)
none_of true true false e = (cc, cc, cc)
none_of true false z e = (cc, cc, cc)
none_of false y z e = (cc, cc, cc)

pub no_finer : (fine : Finer) → (not (eqb fine.time.first 0) || not (eqb fine.lat.first 0) || not (eqb fine.lon.first 0)) ≡ false → NoFiner fine
no_finer fine e =
    let n = none_of _ _ _ e in
    record { time = eqb-true _ _ n.0; lat = eqb-true _ _ n.1; lon = eqb-true _ _ n.2 }

within_plain : (most digits count : ℕ) (l : List ℕ) (r : Reach) → r.first ≡ 0 → count ≤ most → within most digits count l r ≡ count
unfolding within refined digits_at number_at spell
within_plain most digits count l r h g = rw (le-leb count most g, ← decimals_none r h, le-leb 0 digits (omega arith)) (omega arith)

pub plain_is : (l : List ℕ) (fine : Finer) (f : FixFields) → NoFiner fine → Limited f
    → record {
      time = record { count = f.time; decimals = 0 };
      lat = record { count = f.lat.count; letter = f.lat.letter; decimals = 0 };
      lon = record { count = f.lon.count; letter = f.lon.letter; decimals = 0 };
      validity = f.validity;
      pressure = f.pressure;
      gnss = f.gnss;
    } ≡ fix_within l fine f
unfolding fix_within time_within position_within
plain_is l fine f n m =
    rw (within_plain 86400 3 f.time l fine.time n.time m.time, within_plain most_latitude 4 f.lat.count l fine.lat n.lat m.lat, within_plain most_longitude 4 f.lon.count l fine.lon n.lon m.lon, ← decimals_none fine.time n.time, ← decimals_none fine.lat n.lat, ← decimals_none fine.lon n.lon) refl

pub time_is : (l : List ℕ) (r : Option ℕ) (t : ℕ) → r ≡ time_at l 1 → r ≡ Some t → time_at l 1 ≡ Some t
time_is l r t e g = rw (← e, g)

pub passed_so : (l : List ℕ) (p n : Progress) (next : ℕ) (v : FixFields) (f : Fix) (r : Record) (t : Option ℕ) → n ≡ behind (t) p next → t ≡ Some v.time → f ≡ fix_within l p.finer v → r ≡ record_of (walk_of n) f
    → record { found = r; next = n } ≡ passed_by l p next v
passed_so l p n next v f r t e k g h = rw (h, g, e, k)

pub not_so : {A : Type 0} → false ≡ true → A
not_so e = let z : ◌≡◌ {A = ℕ} 0 1 = cc in absurd (omega arith)

pub not_secs : (t : ℕ) → None ≡ Some t → ⊥
not_secs t e = let z : ◌≡◌ {A = ℕ} 0 1 = cc in omega arith

-- a step
module _ (file : List ℕ) (p : Progress) (r : Bool) (x : FixStep) (e : r ≡ is_few (length file) p) where
  pub step_none : not r ≡ true → x ≡ no_fix p → x ≡ step_of file p
  unfolding step_of
  step_none n g = rw (← e, not-true r n) g

  pub step_read : not r ≡ false → (q : Progress) → q ≡ skipped (lines_of (drop p.at file)) p → x ≡ read_at file q → x ≡ step_of file p
  unfolding step_of on
  step_read n q g h = rw (← e, not-false r n, ← g) h

pub few_so : (file : List ℕ) (p : Progress) (r : Bool) → r ≡ is_few (length file) p → not r ≡ false → Few (length file) p
few_so file p r e n = few_is (length file) p (sym e ∙ not-false r n)
