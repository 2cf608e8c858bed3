-- Where a column stands, how many digits it has and what they spell, from what the code found; and that no count wraps. Assumes nothing.
use Rattle.std.specs.Prelude.{Option}
use Prim.Native.Nat.{ℕ, ◌+◌, ◌-◌, ◌*◌, ◌^◌, ◌≤◌, ◌<◌}
use mathlib.Core.Bool.{Bool, true, false, ◌&&◌, cond}
use mathlib.Core.List.{List}
use mathlib.Core.Path.{◌≡◌, refl, sym, ap, ◌∙◌}
use native.Mathlib.Nat.{mul-le-mul_left}
use native.Mathlib.Omega.{arith}
use borrow.Author.Tests.{le-leb, leb-true, eq-eqb, ltb-true, ltb-false}
use lib.Dec.{eqb, leb, ltb}
use lib.ListN.{length, get_or, drop}
use Rattle.rules.specs.Choice.{given, need, first_of}
use Rattle.rules.specs.Fields.{most_latitude, most_longitude}
use Rattle.rules.specs.declared.Span.{Span}
use Rattle.rules.specs.Layouts.{unused, entries_of, span_of, look}
use Rattle.rules.specs.Fixes.{no_reach, reach_of, decimals_of, digits_at, refined}
use Rattle.rules.specs.declared.Entry.{Entry}
use Rattle.rules.specs.declared.FinePosition.{FinePosition}
use Rattle.rules.specs.declared.FineTime.{FineTime}
use Rattle.rules.specs.declared.Finer.{Finer}
use Rattle.rules.specs.declared.Fix.{Fix}
use Rattle.rules.specs.declared.FixFields.{FixFields}
use Rattle.rules.specs.declared.Layout.{Layout}
use Rattle.rules.specs.declared.Position.{Position}
use Rattle.rules.specs.declared.Reach.{Reach}
use Rattle.layout_coded.proofs.Turns.{entry_hit, entry_miss, entry_past, entry_end}
use Rattle.rules_trips.proofs.Refined.{digits_below}
use Rattle.byte_tens.specs.Tens.{power_of}
use Rattle.byte_tens.proofs.Laws.{power_all, power_most}
use Rattle.line_finer.specs.Within.{reached_by, within, time_within, position_within, fix_within}

-- ---- where a column stands

-- from the entry behind i others on
module _ (l : Layout) (x : ℕ) where
  abbrev pub reach_from : ℕ → Reach
  reach_from i = given (first_of (λ (e : Entry). eqb e.code x) (λ (k : ℕ) (e : Entry). span_of e) (drop i (entries_of l)) i) no_reach λ s. record { first = s.first; last = s.last }

  abbrev reach_or : Option Span → Reach
  reach_or o = given o no_reach λ s. record { first = s.first; last = s.last }

  pub reach_end : length l.entries ≡ 13 → no_reach ≡ reach_from 13
  reach_end e = sym (ap reach_or (entry_end (λ (e : Entry). eqb e.code x) (λ (k : ℕ) (e : Entry). span_of e) l 13 e (omega arith)))

  pub reach_first : reach_from 0 ≡ reach_of l x
  unfolding reach_of look
  reach_first = refl

  -- one entry more, at the front
  pub reach_more : length l.entries ≡ 13 → (i : ℕ) → i < 13 → reached_by (reach_from (i + 1)) (ltb i l.count) (get_or l.entries i unused) x ≡ reach_from i
  reach_more e i h = go (ltb i l.count) (eqb (get_or l.entries i unused).code x) refl refl
    where
      go : (t u : Bool) → ltb i l.count ≡ t → eqb (get_or l.entries i unused).code x ≡ u
          → cond (t && u) (record { first = (get_or l.entries i unused).first; last = (get_or l.entries i unused).last }) (reach_from (i + 1)) ≡ reach_from i
      go false u p q =
          let k = ltb-false _ _ p in
          ap reach_or (entry_past (λ (e : Entry). eqb e.code x) (λ (k : ℕ) (e : Entry). span_of e) l (i + 1) (omega (arith, k)))
          ∙ sym (ap reach_or (entry_past (λ (e : Entry). eqb e.code x) (λ (k : ℕ) (e : Entry). span_of e) l i k))
      go true true p q = sym (ap reach_or (entry_hit (λ (e : Entry). eqb e.code x) (λ (k : ℕ) (e : Entry). span_of e) l i e h (ltb-true _ _ p) q))
      go true false p q = sym (ap reach_or (entry_miss (λ (e : Entry). eqb e.code x) (λ (k : ℕ) (e : Entry). span_of e) l i e h (ltb-true _ _ p) q))

  -- the turn of a loop that goes to the front
  pub reach_turn : length l.entries ≡ 13 → (i : ℕ) → 0 < i → i ≤ 13 → (was r : Reach) → was ≡ reach_from i
      → r ≡ reached_by was (ltb (i - 1) l.count) (get_or l.entries (i - 1) unused) x → r ≡ reach_from (i - 1)
  reach_turn e i a b was r h g =
      let n : i ≡ i - 1 + 1 = omega arith in
      g ∙ ap (λ y. reached_by y (ltb (i - 1) l.count) (get_or l.entries (i - 1) unused) x) (h ∙ ap reach_from n) ∙ reach_more e (i - 1) (omega arith)

pub three : (t a o t' a' o' : Reach) → t ≡ t' → a ≡ a' → o ≡ o' → ◌≡◌ {A = Finer} (record { time = t; lat = a; lon = o }) (record { time = t'; lat = a'; lon = o' })
three t a o t' a' o' e f g = rw (e, f, g)

pub decimals_none : (r : Reach) → r.first ≡ 0 → 0 ≡ decimals_of r
unfolding decimals_of
decimals_none r e = rw (eq-eqb r.first 0 e)

-- ---- a count refined

module _ (l : List ℕ) (r : Reach) (few : decimals_of r ≤ 4) where
  power_cap : 10 ^ decimals_of r ≤ 10000
  power_cap = rw (power_all (decimals_of r) few) at (power_most (decimals_of r))

  -- n is how many digits the column has, and p ten for each of them
  pub power_of_lem : (n p : ℕ) → n ≡ decimals_of r → p ≡ power_of n → p ≡ 10 ^ decimals_of r
  power_of_lem n p i j = j ∙ ap power_of i ∙ power_all (decimals_of r) few

  pub digits_few : digits_at l r < 10000
  digits_few = omega (arith, digits_below l r, power_cap)

  pub taken_few : (count : ℕ) → count * 10 ^ decimals_of r ≤ count * 10000
  taken_few count = mul-le-mul_left count power_cap

pub refined_is : (l : List ℕ) (r : Reach) (count p d : ℕ) → p ≡ 10 ^ decimals_of r → d ≡ digits_at l r → count * p + d ≡ refined count l r
unfolding refined
refined_is l r count p d i j = rw (i, j)

-- ---- within the limits

pub is_within : (l : List ℕ) (r : Reach) (most digits count : ℕ) → count ≤ most → decimals_of r ≤ digits → refined count l r ≡ within most digits count l r
unfolding within
is_within l r most digits count h k = rw (le-leb count most h, le-leb (decimals_of r) digits k)

-- a time with its digits is a number of 32 bits
pub time_few : (l : List ℕ) (r : Reach) (t : ℕ) → within 86400 3 t l r < 1000000000
unfolding within refined
time_few l r t = by (leb t 86400) (leb (decimals_of r) 3) refl refl
  where
    refined_few : decimals_of r ≤ 4 → t ≤ 86400 → refined t l r < 1000000000
    refined_few few h = omega (arith, taken_few l r few t, digits_few l r few)

    by : (a b : Bool) → leb t 86400 ≡ a → leb (decimals_of r) 3 ≡ b → (need a 0 λ _. need b 0 λ _. refined t l r) < 1000000000
    by true true e f =
        let few : decimals_of r ≤ 4 = omega (arith, leb-true (decimals_of r) 3 f) in
        refined_few few (leb-true t 86400 e)
    by true false e f = omega arith
    by false b e f = omega arith

-- ---- what is made of the counts

pub time_made : (t : ℕ) (l : List ℕ) (r : Reach) (count decimals : ℕ) → count ≡ within 86400 3 t l r → decimals ≡ decimals_of r
    → ◌≡◌ {A = FineTime} (record { count = count; decimals = decimals }) (time_within t l r)
unfolding time_within
time_made t l r count decimals e g = rw (e, g)

pub position_made : (most : ℕ) (p : Position) (l : List ℕ) (r : Reach) (count decimals : ℕ) → count ≡ within most 4 p.count l r → decimals ≡ decimals_of r
    → ◌≡◌ {A = FinePosition} (record { count = count; letter = p.letter; decimals = decimals }) (position_within most p l r)
unfolding position_within
position_made most p l r count decimals e g = rw (e, g)

pub fix_made_of : (l : List ℕ) (fine : Finer) (f : FixFields) (t : FineTime) (a o : FinePosition) → t ≡ time_within f.time l fine.time → a ≡ position_within most_latitude f.lat l fine.lat
    → o ≡ position_within most_longitude f.lon l fine.lon
    → ◌≡◌ {A = Fix} (record { time = t; lat = a; lon = o; validity = f.validity; pressure = f.pressure; gnss = f.gnss }) (fix_within l fine f)
unfolding fix_within
fix_made_of l fine f t a o e g h = rw (e, g, h)
