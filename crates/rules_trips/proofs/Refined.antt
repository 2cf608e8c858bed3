-- A fix and its fields: of any line and any columns the fix gives the fields back, and where its decimals and its last digits are the columns', the fields give the fix back. An
-- allowed layout has few decimals, and its columns stand in the tail of a line. Assumes nothing.
use Rattle.std.specs.Prelude.{None, Option, Some}
use Prim.Native.Nat.{ℕ, suc, ◌+◌, ◌-◌, ◌^◌, ◌≤◌, ◌<◌}
use mathlib.Core.Bool.{true, ◌&&◌}
use mathlib.Core.List.{List, ◌++◌}
use mathlib.Core.Path.{◌≡◌, refl, sym, subst, ◌∙◌}
use mathlib.Core.Logic.{◌↔◌}
use native.Mathlib.Nat.{one-le-pow, mul-add-div_right, mul-add-mod_self_right, mod-eq_of_lt, div-eq_of_lt, div-add-mod'}
use native.Mathlib.Omega.{arith}
use borrow.Author.Tests.{le-leb, leb-true, eqb-true, eq-eqb, ne_eqb}
use lib.Dec.{eqb, leb}
use lib.ListN.{length, get_or}
use Rattle.rules.specs.Choice.{given, part, byte, first_of, bytes}
use Rattle.rules.specs.Numbers.{spell, number_at}
use Rattle.rules.specs.Listed.{listed, unlisted, listed_number, width_fits, tds, lad, lod}
use Rattle.rules.specs.declared.Span.{Span}
use Rattle.rules.specs.Layouts.{entries_of, span_of, look, allowed}
use Rattle.rules.specs.Fixes.{no_reach, reach_of, finer_of, decimals_of, digits_at, refined, fine_position, fix_of, plain, plain_position, fields_of, extra_digits}
use Rattle.rules.specs.Limits.{is_fine, tail_digits, is_split, are_split}
use Rattle.rules.specs.declared.Entry.{Entry}
use Rattle.rules.specs.declared.Layout.{Layout}
use Rattle.rules.specs.declared.Reach.{Reach}
use Rattle.rules.specs.declared.Finer.{Finer}
use Rattle.rules.specs.declared.FixFields.{FixFields}
use Rattle.rules.specs.declared.Fix.{Fix}
use Rattle.rules.proofs.Inverse.{and_inv}
use Rattle.rules_trips.proofs.Digits.{number_there}
use Rattle.rules_trips.proofs.Each.{found_one}
use Rattle.rules_trips.proofs.Placing.{Stands, all_stand}
use Rattle.rules_trips.proofs.Tails.{part_tail}

-- ---- one count, and the digits of one column

power_low : (d : ℕ) → 0 < 10 ^ d
power_low d = one-le-pow d 10 (omega arith)

-- a number that was read has no more digits than it was read from, and 0 has none
below : (s : List ℕ) (n : ℕ) (o : Option ℕ) → number_at s 0 n ≡ o → given o 0 (λ v. v) < 10 ^ n
below s n None e = power_low n
below s n (Some v) e = (number_there s 0 n n v (omega arith) e).1

-- a count is split as the column of a line has it
pub record Split (l : List ℕ) (count decimals : ℕ) (r : Reach) : Type 0 where
  pub decimal : decimals ≡ decimals_of r
  pub digits : extra_digits count decimals ≡ digits_at l r

module _ (l : List ℕ) (r : Reach) where
  -- the digits are fewer than the power of ten that makes room for them
  pub digits_below : digits_at l r < 10 ^ decimals_of r
  unfolding digits_at
  digits_below = below (part (byte r.first) r.last l) (decimals_of r) _ refl

  -- "the count without the extra digits" is the old count, and what is left are the digits
  pub plain_refined : (count : ℕ) → plain (refined count l r) (decimals_of r) ≡ count
  unfolding plain refined
  plain_refined count = rw (mul-add-div_right (power_low (decimals_of r)) count (digits_at l r), div-eq_of_lt digits_below) (omega arith)

  pub extra_refined : (count : ℕ) → extra_digits (refined count l r) (decimals_of r) ≡ digits_at l r
  unfolding extra_digits refined
  extra_refined count = mul-add-mod_self_right count (10 ^ decimals_of r) (digits_at l r) ∙ mod-eq_of_lt digits_below

  -- a count that is split so is what its parts make
  pub refined_plain : (count decimals : ℕ) → Split l count decimals r → refined (plain count decimals) l r ≡ count
  unfolding plain extra_digits refined
  refined_plain count decimals w = rw (← w.decimal, ← w.digits) (div-add-mod' count (10 ^ decimals))

-- ---- a fix

module _ (l : List ℕ) (fine : Finer) where
  pub fields_of_fix : (f : FixFields) → fields_of (fix_of l fine f) ≡ f
  unfolding fix_of fields_of fine_position plain_position
  fields_of_fix f =
      let t = plain_refined l fine.time f.time in
      let a = plain_refined l fine.lat f.lat.count in
      let o = plain_refined l fine.lon f.lon.count in
      λ i. record {
        time = t i;
        lat = record { count = a i; letter = f.lat.letter };
        lon = record { count = o i; letter = f.lon.letter };
        validity = f.validity;
        pressure = f.pressure;
        gnss = f.gnss;
      }

  -- all three counts are split so
  pub record AreSplit (f : Fix) : Type 0 where
    pub time : Split l f.time.count f.time.decimals fine.time
    pub lat : Split l f.lat.count f.lat.decimals fine.lat
    pub lon : Split l f.lon.count f.lon.decimals fine.lon

  pub fix_of_fields : (f : Fix) → AreSplit f → fix_of l fine (fields_of f) ≡ f
  unfolding fix_of fields_of fine_position plain_position
  fix_of_fields f w =
      let t = refined_plain l fine.time _ _ w.time in
      let a = refined_plain l fine.lat _ _ w.lat in
      let o = refined_plain l fine.lon _ _ w.lon in
      λ i. record {
        time = record { count = t i; decimals = sym w.time.decimal i };
        lat = record { count = a i; letter = f.lat.letter; decimals = sym w.lat.decimal i };
        lon = record { count = o i; letter = f.lon.letter; decimals = sym w.lon.decimal i };
        validity = f.validity;
        pressure = f.pressure;
        gnss = f.gnss;
      }

  pub fix_split : (f : FixFields) → AreSplit (fix_of l fine f)
  unfolding fix_of fine_position
  fix_split f = record {
    time = record { decimal = refl; digits = extra_refined l fine.time f.time };
    lat = record { decimal = refl; digits = extra_refined l fine.lat f.lat.count };
    lon = record { decimal = refl; digits = extra_refined l fine.lon f.lon.count };
  }

-- ---- the columns of an allowed layout

-- where the column of a code stands in it: nowhere, or from the first start on, as wide as it may be
pub data Reached (start x : ℕ) : Reach → Type 0 where
  missing : Reached start x no_reach
  standing : {r : Reach} → start ≤ r.first → r.first ≤ r.last → width_fits x (r.last - r.first + 1) ≡ true → Reached start x r

pub reached : (start : ℕ) (layout : Layout) (x : ℕ) → allowed start layout ≡ true → Reached start x (reach_of layout x)
unfolding reach_of look
reached start layout x g = by (look layout x) refl
  where
    by : (o : Option Span) → look layout x ≡ o → Reached start x (given o no_reach λ s. record { first = s.first; last = s.last })
    by None e = missing
    by (Some s) e =
        let f = found_one (λ (e : Entry). eqb e.code x) (λ (k : ℕ) (e : Entry). span_of e) _ (entries_of layout) 0 s (all_stand start layout g) e in
        let w : Stands start f.0 = f.2 in
        let i : f.0.code ≡ x = eqb-true _ _ f.3 in
        let at : Reached start x (record { first = f.0.first; last = f.0.last }) = standing w.starts w.ends (rw i at w.wide) in
        subst (λ (s : Span). Reached start x (record { first = s.first; last = s.last })) f.4 at

-- a listed column is no wider than its row has it
wide_most : (x w n : ℕ) → listed_number x ≡ Some n → width_fits x w ≡ true → w ≤ (get_or listed n unlisted).most
unfolding width_fits
wide_most x w n e h = leb-true _ _ (and_inv (leb (get_or listed n unlisted).least w) _ (rw e at h)).1

decimals_most : (start x n : ℕ) (r : Reach) → 1 ≤ start → listed_number x ≡ Some n → Reached start x r → decimals_of r ≤ (get_or listed n unlisted).most
unfolding decimals_of
decimals_most start x n no_reach h e missing = omega arith
decimals_most start x n r h e (standing a b w) = rw (ne_eqb r.first 0 (λ z. omega arith)) (omega (arith, wide_most x _ n e w))

-- "up to 4, 4 and 3"
pub fine_most : (layout : Layout) → allowed 36 layout ≡ true
    → (decimals_of (finer_of layout).time ≤ 3) × (decimals_of (finer_of layout).lat ≤ 4) × (decimals_of (finer_of layout).lon ≤ 4)
unfolding finer_of listed listed_number first_of bytes
fine_most layout g = (
  decimals_most 36 tds 10 _ (omega arith) refl (reached 36 layout tds g),
  decimals_most 36 lad 11 _ (omega arith) refl (reached 36 layout lad g),
  decimals_most 36 lod 12 _ (omega arith) refl (reached 36 layout lod g),
)

-- ---- the digits in the tail of a line

-- of a line whose front ends before the first start: what its column spells is what the tail spells
tail_digits_lem : (x : ℕ) (a tail : List ℕ) (r : Reach) → suc (length a) ≡ 36 → Reached 36 x r → tail_digits tail r ≡ digits_at (a ++ tail) r
unfolding tail_digits digits_at decimals_of number_at spell
tail_digits_lem x a tail no_reach long missing = refl
tail_digits_lem x a tail r long (standing h g w) = rw (part_tail 36 a tail long r.first r.last h g)

module _ (layout : Layout) (g : allowed 36 layout ≡ true) (a tail : List ℕ) (long : suc (length a) ≡ 36) (f : Fix) where
  -- the writer's tests of a count, on the tail, are that it is split as the line's column has it
  split_exactly : (x count decimals : ℕ) → (is_split count decimals tail (reach_of layout x) ≡ true) ↔ Split (a ++ tail) count decimals (reach_of layout x)
  unfolding is_split
  split_exactly x count decimals =
      let t = tail_digits_lem x a tail (reach_of layout x) long (reached 36 layout x g) in (
        λ e. let h = and_inv (eqb decimals (decimals_of (reach_of layout x))) _ e in record { decimal = eqb-true _ _ h.0; digits = eqb-true _ _ h.1 ∙ t },
        λ w. simp (eq-eqb _ _ w.decimal, eq-eqb _ _ (w.digits ∙ sym t)),
      )

  pub splits_there : are_split f tail (finer_of layout) ≡ true → AreSplit (a ++ tail) (finer_of layout) f
  unfolding are_split finer_of
  splits_there e =
      let o = and_inv (is_split f.time.count f.time.decimals tail (reach_of layout tds) && is_split f.lat.count f.lat.decimals tail (reach_of layout lad)) _ e in
      let b = and_inv (is_split f.time.count f.time.decimals tail (reach_of layout tds)) _ o.0 in
      record { time = (split_exactly tds _ _).0 b.0; lat = (split_exactly lad _ _).0 b.1; lon = (split_exactly lod _ _).0 o.1 }

  pub splits_here : AreSplit (a ++ tail) (finer_of layout) f → are_split f tail (finer_of layout) ≡ true
  unfolding are_split finer_of
  splits_here w = simp ((split_exactly tds _ _).1 w.time, (split_exactly lad _ _).1 w.lat, (split_exactly lod _ _).1 w.lon)

  -- and then no count has more decimals than it may
  pub split_fine : AreSplit (a ++ tail) (finer_of layout) f → is_fine f ≡ true
  unfolding is_fine
  split_fine w =
      let m = fine_most layout g in
      simp (le-leb f.time.decimals 3 (omega (arith, m.0, w.time.decimal)), le-leb f.lat.decimals 4 (omega (arith, m.1, w.lat.decimal)), le-leb f.lon.decimals 4 (omega (arith, m.2, w.lon.decimal)))
