-- The counts of a fix whose line got more columns: where a column of finer digits was there, they are as before, and where it was added, they are without its digits. Assumes nothing.
use Rattle.std.specs.Prelude.{None, Option, Some}
use Prim.Native.Nat.{ℕ, ◌+◌, ◌-◌, ◌≤◌}
use mathlib.Core.Bool.{true, false}
use mathlib.Core.List.{List}
use mathlib.Core.Path.{◌≡◌, refl, sym, ap₂, ◌∙◌}
use native.Mathlib.Omega.{arith}
use borrow.Author.Tests.{ne_eqb}
use Rattle.rules.specs.Choice.{given}
use Rattle.rules.specs.Families.{first_start}
use Rattle.rules.specs.Numbers.{spell, number_at}
use Rattle.rules.specs.Listed.{tds, lad, lod}
use Rattle.rules.specs.declared.Span.{Span}
use Rattle.rules.specs.Layouts.{entries_of, look, carries, column_text}
use Rattle.rules.specs.Lines.{FieldsIn}
use Rattle.rules.specs.Fixes.{reach_of, finer_of, decimals_of, digits_at, refined, fine_position, fix_of}
use Rattle.rules.specs.Reads.{value_from}
use Rattle.rules.specs.declared.Layout.{Layout}
use Rattle.rules.specs.declared.Family.{Family}
use Rattle.rules.specs.declared.Family.TheVariants as family
use Rattle.rules.specs.declared.FixFields.{FixFields}
use Rattle.rules.proofs.Inverse.{none_some, false_true}
use Rattle.rules_trips.proofs.Each.{each_map}
use Rattle.rules_trips.proofs.Placing.{all_stand}
use Rattle.rules_trips.proofs.Refined.{plain_refined}
use Rattle.rules_sound.proofs.Placed.{Sound}
use Rattle.rules_sound.proofs.Columns.{carried_there, each_at}
use Rattle.grammar_wider.specs.Wider.{width_in, Extends}
use Rattle.grammar_wider.specs.Before.{CountAsBefore, FixAsBefore, ValueAsBefore}

-- ---- one layout, and the column of a code

not_carried : (layout : Layout) (x : ℕ) → carries layout x ≡ false → look layout x ≡ None
unfolding carries
not_carried layout x h = go (look layout x) h
  where
    go : (o : Option Span) → given o false (λ s. true) ≡ false → o ≡ None
    go None h = refl
    go (Some s) h = absurd (false_true (sym h))

module _ (l : List ℕ) (layout : Layout) (x : ℕ) where
  -- without the column there are no decimals, and the count is the plain one
  without_decimals : look layout x ≡ None → decimals_of (reach_of layout x) ≡ 0
  unfolding reach_of decimals_of
  without_decimals e = rw e

  without_digits : (count : ℕ) → look layout x ≡ None → refined count l (reach_of layout x) ≡ count
  unfolding reach_of refined decimals_of digits_at number_at spell
  without_digits count e = rw e (omega arith)

  -- with it, so many as it is wide, and its text's digits
  with_decimals_lem : Sound 36 layout → (s : Span) → look layout x ≡ Some s → decimals_of (reach_of layout x) ≡ s.last + 1 - s.first
  unfolding reach_of decimals_of
  with_decimals_lem sound s e =
      let n : 36 ≤ s.first = each_at (λ x s. 36 ≤ s.first) layout x s (each_map (entries_of layout) (λ e w. w.starts) (all_stand 36 layout sound.right)) e in
      rw (e, ne_eqb s.first 0 (λ z. omega arith))

  with_digits : (s : Span) → look layout x ≡ Some s → digits_at l (reach_of layout x) ≡ given (number_at (column_text l s) 0 (decimals_of (reach_of layout x))) 0 (λ v. v)
  unfolding reach_of digits_at
  with_digits s e = rw e

-- ---- the old line by the old layout, and the new one by the new layout

module _ (old new : Layout) (l l' : List ℕ) (sound : Sound 36 old) (sound' : Sound 36 new) (x : Extends old new)
    (text : (c : ℕ) (s : Span) → look old c ≡ Some s → (s' : Span) × (look new c ≡ Some s') × (column_text l' s' ≡ column_text l s)) where
  -- a column that was there is as wide as it was
  kept_decimals : (c : ℕ) → carries old c ≡ true → decimals_of (reach_of new c) ≡ decimals_of (reach_of old c)
  unfolding width_in
  kept_decimals c h =
      let s = carried_there old c h in
      let k = text c s.0 s.1 in
      let n : width_in new c ≡ width_in old c = each_at (λ c s. width_in new c ≡ width_in old c) old c s.0 x s.1 in
      let m : Some (k.0.last + 1 - k.0.first) ≡ Some (s.0.last + 1 - s.0.first) = rw (s.1, k.1) at n in
      let i : k.0.last + 1 - k.0.first ≡ s.0.last + 1 - s.0.first = cc in
      with_decimals_lem l' new c sound' k.0 k.1 ∙ i ∙ sym (with_decimals_lem l old c sound s.0 s.1)

  kept_digits : (c : ℕ) → carries old c ≡ true → digits_at l' (reach_of new c) ≡ digits_at l (reach_of old c)
  kept_digits c h =
      let s = carried_there old c h in
      let k = text c s.0 s.1 in
      with_digits l' new c k.0 k.1 ∙ ap₂ (λ t n. given (number_at t 0 n) 0 (λ v. v)) k.2 (kept_decimals c h) ∙ sym (with_digits l old c s.0 s.1)

  -- a column that is not there now was not there
  still_missing : (c : ℕ) → look new c ≡ None → look old c ≡ None
  still_missing c h = go (look old c) refl
    where
      go : (o : Option Span) → look old c ≡ o → o ≡ None
      go None e = refl
      go (Some s) e = absurd (none_some (sym h ∙ (text c s e).1))

  count_before : (c count : ℕ) → CountAsBefore old new c (refined count l (reach_of old c)) (decimals_of (reach_of old c)) (refined count l' (reach_of new c)) (decimals_of (reach_of new c))
  unfolding refined
  count_before c count = record {
    kept = λ h. (rw (kept_decimals c h, kept_digits c h), kept_decimals c h);
    added = λ h. let e = not_carried old c h in (without_decimals l old c e, plain_refined l' (reach_of new c) count ∙ sym (without_digits l old c count e));
    missing = λ h.
        let e' = not_carried new c h in
        let e = still_missing c e' in
        (without_digits l' new c count e' ∙ sym (without_digits l old c count e), without_decimals l' new c e' ∙ sym (without_decimals l old c e));
  }

  fix_before : (f : FixFields) → FixAsBefore old new (fix_of l (finer_of old) f) (fix_of l' (finer_of new) f)
  unfolding fix_of finer_of fine_position
  fix_before f = record {
    time = count_before tds f.time;
    lat = count_before lad f.lat.count;
    lat_letter = refl;
    lon = count_before lod f.lon.count;
    lon_letter = refl;
    validity = refl;
    pressure = refl;
    gnss = refl;
  }

-- the value of a line of a family
pub value_before : (f : Family) (old new : Layout) (l l' : List ℕ) (v : FieldsIn f) → Sound (first_start f) old → Sound (first_start f) new → Extends old new
    → ((c : ℕ) (s : Span) → look old c ≡ Some s → (s' : Span) × (look new c ≡ Some s') × (column_text l' s' ≡ column_text l s))
    → ValueAsBefore f old new (value_from f l old v) (value_from f l' new v)
value_before family.B old new l l' v sound sound' x text = fix_before old new l l' sound sound' x text v
value_before (family.Extra e) old new l l' t sound sound' x text = refl
