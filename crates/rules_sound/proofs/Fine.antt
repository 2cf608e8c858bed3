-- A fix that was read is within the limits of its finer counts, so that the map takes its position. Assumes nothing.
use Rattle.std.specs.Prelude.{None, Option, Some}
use Prim.Native.Nat.{ℕ, ◌≤◌}
use Prim.Native.Char.{code}
use mathlib.Core.Bool.{true, false}
use mathlib.Core.List.{List}
use mathlib.Core.Path.{◌≡◌, refl}
use borrow.Author.Tests.{le-leb, leb-true, eq-eqb}
use lib.Dec.{leb}
use Rattle.rules.specs.Choice.{given}
use Rattle.rules.specs.Numbers.{number_at, spell}
use Rattle.rules.specs.Refusals.{says}
use Rattle.rules.specs.Fields.{most_latitude, most_longitude}
use Rattle.rules.specs.Degrees.{is_position, is_fine_position, is_latitude, is_longitude, is_fine_latitude, is_fine_longitude}
use Rattle.rules.specs.Listed.{keeps_limit, is_zeros, lad, lod}
use Rattle.rules.specs.declared.Span.{Span}
use Rattle.rules.specs.Layouts.{look, column_text}
use Rattle.rules.specs.Lines.{at_limit}
use Rattle.rules.specs.Limits.{is_time, good_fix_fields}
use Rattle.rules.specs.Fixes.{no_reach, reach_of, finer_of, decimals_of, digits_at, fine_position, fix_of}
use Rattle.rules.specs.Reads.{fields_said}
use Rattle.rules.specs.declared.Layout.{Layout}
use Rattle.rules.specs.declared.Position.{Position}
use Rattle.rules.specs.declared.Family.TheVariants as family
use Rattle.rules.specs.declared.FixFields.{FixFields}
use Rattle.rules.proofs.Inverse.{and_inv, need_inv, false_true}
use Rattle.rules_trips.proofs.Columned.{by_said}
use Rattle.rules_trips.proofs.Fixes.{fix_front}
use Rattle.rules_trips.proofs.Refined.{fine_most}
use Rattle.rules_trips.proofs.AtLimits.{limits_exactly, zero_digits, refined_within}
use Rattle.rules_sound.proofs.Columns.{each_at, ruled_there}

-- digits that are zeros wherever their column stands spell 0; without the column there are none
no_digits : (l : List ℕ) (layout : Layout) (x : ℕ) → ((s : Span) → look layout x ≡ Some s → is_zeros (column_text l s) ≡ true) → digits_at l (reach_of layout x) ≡ 0
unfolding reach_of digits_at decimals_of number_at spell
no_digits l layout x h = go (look layout x) refl
  where
    go : (o : Option Span) → look layout x ≡ o → digits_at l (given o no_reach λ s. record { first = s.first; last = s.last }) ≡ 0
    go None e = refl
    go (Some s) e = zero_digits l (record { first = s.first; last = s.last }) (h s e)

-- one coordinate
fine_within : (most a b : ℕ) (p : Position) (l : List ℕ) (layout : Layout) (x : ℕ) → is_position most a b p ≡ true → decimals_of (reach_of layout x) ≤ 4
    → (p.count ≡ most → (s : Span) → look layout x ≡ Some s → is_zeros (column_text l s) ≡ true)
    → is_fine_position most a b (fine_position p l (reach_of layout x)) ≡ true
unfolding is_position is_fine_position fine_position
fine_within most a b p l layout x g d h =
    let w = and_inv (leb p.count most) _ g in
    let k = refined_within most p.count l (reach_of layout x) (leb-true _ _ w.0) (λ e. no_digits l layout x (h e)) in
    simp (le-leb _ _ d, le-leb _ _ k, w.1)

pub fine_there : (l : List ℕ) (layout : Layout) (f : FixFields) → fields_said family.B l layout ≡ says f
    → (is_fine_latitude (fix_of l (finer_of layout) f).lat ≡ true) × (is_fine_longitude (fix_of l (finer_of layout) f).lon ≡ true)
unfolding good_fix_fields finer_of fix_of at_limit
fine_there l layout f e =
    let w = by_said family.B l layout f e in
    let p = (fix_front.passes layout l f).0 w.2 in
    let m = fine_most layout w.1 in
    let t = need_inv (is_time f.time) false true _ false_true (fix_front.limits l f p.fields) in
    let a = need_inv (is_latitude f.lat) false true _ false_true t.1 in
    let o = need_inv (is_longitude f.lon) false true _ false_true a.1 in
    let k = ruled_there (at_limit f) l layout p.ruled in
    let c : (x : ℕ) (s : Span) → look layout x ≡ Some s → keeps_limit (at_limit f) x (column_text l s) ≡ true = λ x s. each_at (λ x s. keeps_limit (at_limit f) x (column_text l s) ≡ true) layout x s k in (
      fine_within most_latitude (code "N") (code "S") f.lat l layout lad a.0 m.1 (λ i s h. ((limits_exactly (at_limit f) lad (column_text l s)).0 (c lad s h)).lat (eq-eqb _ _ i) refl),
      fine_within most_longitude (code "E") (code "W") f.lon l layout lod o.0 m.2 (λ i s h. ((limits_exactly (at_limit f) lod (column_text l s)).0 (c lod s h)).lon (eq-eqb _ _ i) refl),
    )
