-- One line with added columns, over the family: it says what the line said before, and so do its old columns. Assumes nothing.
use Rattle.std.specs.Prelude.{None, Option, Some}
use Prim.Native.Nat.{ℕ, suc, ◌+◌, ◌-◌}
use mathlib.Core.Bool.{Bool, true, false}
use mathlib.Core.List.{List, [], ◌++◌}
use mathlib.Core.Path.{◌≡◌, refl, sym, ap, subst, ◌∙◌}
use native.Mathlib.Omega.{arith}
use lib.ListN.{length, take, drop, take-append-drop}
use lib.Seq.{take_at}
use Rattle.rules.specs.Choice.{byte, Each}
use Rattle.rules.specs.Families.{first_start}
use Rattle.rules.specs.Refusals.{says}
use Rattle.rules.specs.Chars.{characters, first_invalid}
use Rattle.rules.specs.Listed.{packed_of, keeps_limit}
use Rattle.rules.specs.declared.Span.{Span}
use Rattle.rules.specs.Layouts.{entries_of, span_of, look, carries, allowed, line_length, column_text, columns}
use Rattle.rules.specs.Lines.{shaped_by, FieldsIn}
use Rattle.rules.specs.Reads.{fields_said, value_from}
use Rattle.rules.specs.Looks.{look_said, look_number}
use Rattle.rules.specs.declared.AtLimit.{AtLimit}
use Rattle.rules.specs.declared.Entry.{Entry}
use Rattle.rules.specs.declared.Layout.{Layout}
use Rattle.rules.specs.declared.Family.{Family}
use Rattle.rules.specs.declared.Family.TheVariants as family
use Rattle.rules.specs.Limits.{is_clean}
use Rattle.rules.proofs.Inverse.{none_some, false_true, given_inv, need_inv, and_inv}
use Rattle.rules_trips.proofs.Texts.{are_valid, both_valid, valid_join, clean_valid, nothing_there, shaped_there, shaped_here}
use Rattle.rules_trips.proofs.Tails.{tail_there}
use Rattle.rules_trips.proofs.LineTrip.{line_limits}
use Rattle.rules_trips.proofs.Columned.{Fronted, fields_trip, by_said, reading_said, limit_in}
use Rattle.rules_trips.proofs.Extras.{extra_front}
use Rattle.rules_trips.proofs.Fixes.{fields_said_lem, fix_front}
use Rattle.grammar_wider.specs.Wider.{Extends, text_in, limits_of, KeepsRules, WiderLine}
use Rattle.grammar_wider.specs.Before.{text_said, AsBefore}
use Rattle.grammar_wider.proofs.Families.{first_byte}
use Rattle.grammar_wider.proofs.Counts.{value_before}
use Rattle.rules_trips.proofs.Each.{each_map, each_both}
use Rattle.rules_sound.proofs.Placed.{Sound}
use Rattle.rules_sound.proofs.Looked.{read_fits, look_there}
use Rattle.rules_sound.proofs.Columns.{carried_there, each_at, each_looked, ruled_there, ruled_here, columns_valid}

-- ---- parts of a valid text

valid_take : (n : ℕ) (l : List ℕ) → are_valid l ≡ true → are_valid (take n l) ≡ true
valid_take n l h = (and_inv (are_valid (take n l)) (are_valid (drop n l)) (sym (valid_join (take n l) (drop n l)) ∙ rw take-append-drop h)).0

valid_drop : (n : ℕ) (l : List ℕ) → are_valid l ≡ true → are_valid (drop n l) ≡ true
valid_drop n l h = (and_inv (are_valid (take n l)) (are_valid (drop n l)) (sym (valid_join (take n l) (drop n l)) ∙ rw take-append-drop h)).1

valid_there : (t : List ℕ) → characters false t ≡ says tt → are_valid t ≡ true
unfolding characters is_clean
valid_there t h = sym (clean_valid t) ∙ nothing_there (first_invalid false t) _ (λ i. i + 1) tt h

-- ---- a line's checks by its layout

pub record Checked (start : ℕ) (at : AtLimit) (layout : Layout) (l : List ℕ) : Type 0 where
  pub right : allowed start layout ≡ true
  pub shape : shaped_by start layout l ≡ says tt
  pub ruled : columns at l layout ≡ says tt

-- a column that passed
old_meets : (start : ℕ) (at : AtLimit) (layout : Layout) (l : List ℕ) (x : ℕ) (s : Span) → Checked start at layout l → look layout x ≡ Some s
    → (are_valid (column_text l s) ≡ true) × (keeps_limit at x (column_text l s) ≡ true)
unfolding shaped_by
old_meets start at layout l x s c e =
    let v = (shaped_there (line_length start layout) (line_length start layout) l tt c.shape).2 in (
      valid_take (s.last - byte s.first) (drop (byte s.first) l) (valid_drop (byte s.first) l v),
      each_at (λ x s. keeps_limit at x (column_text l s) ≡ true) layout x s (ruled_there at l layout c.ruled) e,
    )

-- ---- a line with added columns

module _ (f : Family) (old new : Layout) (l l' : List ℕ) (w : WiderLine f old new l l') where
  -- an old column is in the new layout, and has its old text
  kept_text : (x : ℕ) (s : Span) → look old x ≡ Some s → (s' : Span) × (look new x ≡ Some s') × (column_text l' s' ≡ column_text l s)
  unfolding text_in
  kept_text x s e =
      let t = each_at (λ x s. text_in new l' x ≡ text_in old l x) old x s w.kept e in
      let g = given_inv (look new x) None (Some (column_text l s)) _ none_some (t ∙ rw e) in
      (g.0, g.1, cc)

  module _ (sound : Sound (first_start f) new) (c : Checked (first_start f) (limits_of f l) old l) where
    -- every column of the new layout meets the rules
    new_meets : Each (λ (e : Entry). (are_valid (column_text l' (span_of e)) ≡ true) × (keeps_limit (limits_of f l) e.code (column_text l' (span_of e)) ≡ true)) (entries_of new)
    unfolding carries
    new_meets = each_map (entries_of new) (λ e p. go e p.0 p.1 (look old e.code) refl) (each_both (entries_of new) _ _ (each_looked (first_start f) new sound) w.added)
      where
        go : (e : Entry) → look new e.code ≡ Some (span_of e) → (carries old e.code ≡ false → KeepsRules (limits_of f l) e.code (column_text l' (span_of e)))
            → (o : Option Span) → look old e.code ≡ o → (are_valid (column_text l' (span_of e)) ≡ true) × (keeps_limit (limits_of f l) e.code (column_text l' (span_of e)) ≡ true)
        go e a b None h = let m = b (rw h) in (valid_there _ m.valid, m.rule)
        go e a b (Some s) h =
            let k = kept_text e.code s h in
            let i : span_of e ≡ k.0 = cc in
            subst (λ (x : Span). (are_valid (column_text l' x) ≡ true) × (keeps_limit (limits_of f l) e.code (column_text l' x) ≡ true)) (sym i) (rw k.2 (old_meets (first_start f) (limits_of f l) old l e.code s c h))

    new_checked : Checked (first_start f) (limits_of f l) new l'
    unfolding shaped_by
    new_checked =
        let n = line_length (first_start f) new in
        let front : are_valid (take (byte (first_start f)) l') ≡ true =
        rw w.fields (valid_take (byte (first_start f)) l (shaped_there (line_length (first_start f) old) (line_length (first_start f) old) l tt c.shape).2) in
        let tail = columns_valid (first_start f) new l' (omega (arith, first_byte f)) sound w.long (each_map (entries_of new) (λ e m. m.0) new_meets) in
        let v : are_valid l' ≡ true = rw take-append-drop at (both_valid (take (byte (first_start f)) l') (drop (byte (first_start f)) l') front tail) in
        record {
          right = sound.right;
          shape = shaped_here n n l' (omega (arith, w.long)) (omega (arith, w.long)) v;
          ruled = ruled_here (limits_of f l) l' new (each_map (entries_of new) (λ e m. m.1) new_meets);
        }

-- ---- what a line spells before its columns

module _ {f : Family} {At : List ℕ → FieldsIn f → Type 0} {text : FieldsIn f → List ℕ → List ℕ} {within : FieldsIn f → Bool} (front : Fronted f At text within) where
  front_passed : (l : List ℕ) (layout : Layout) (v : FieldsIn f) → fields_said f l layout ≡ says v → Checked (first_start f) (limit_in f v) layout l
  front_passed l layout v e =
      let w = by_said f l layout v e in
      let p = (front.passes layout l v).0 w.2 in
      record { right = w.1; shape = p.shape; ruled = p.ruled }

  front_same : (l l' : List ℕ) (old new : Layout) (v : FieldsIn f) → fields_said f l old ≡ says v → take (byte (first_start f)) l' ≡ take (byte (first_start f)) l
      → Checked (first_start f) (limit_in f v) new l' → fields_said f l' new ≡ says v
  front_same l l' old new v e same c =
      let first : ℕ = first_start f - 1 in
      let n : length (text v []) ≡ first = omega (arith, front.long v) in
      let begin : take first l' ≡ text v [] = same ∙ ap (take first) ((fields_trip front old).there l v e ∙ front.splits v _) ∙ take_at (text v []) _ first n in
      let whole : take first l' ++ drop first l' ≡ l' = take-append-drop first l' in
      let g = need_inv (within v) false true _ false_true (line_limits (fields_trip front old) l v e) in
      let t = tail_there (first_start f) (take first l') (drop first l') (ap (λ (x : List ℕ). suc (length x)) begin ∙ front.long v) (limit_in f v) new tt tt c.right (rw whole c.shape) (rw whole c.ruled) in
      let i : text v (drop first l') ≡ l' = front.splits v _ ∙ rw (← begin) whole in
      rw i at ((fields_trip front new).here v (drop first l') (simp (g.0, t)))

-- a line that is read passed its checks
passed : (f : Family) (l : List ℕ) (layout : Layout) (v : FieldsIn f) → fields_said f l layout ≡ says v → Checked (first_start f) (limit_in f v) layout l
passed family.B = front_passed fix_front
passed (family.Extra x) = front_passed (extra_front x)

-- what it spells depends on the bytes before the columns alone, once it passes its checks
same_front : (f : Family) (l l' : List ℕ) (old new : Layout) (v : FieldsIn f) → fields_said f l old ≡ says v → take (byte (first_start f)) l' ≡ take (byte (first_start f)) l
    → Checked (first_start f) (limit_in f v) new l' → fields_said f l' new ≡ says v
same_front family.B = front_same fix_front
same_front (family.Extra x) = front_same (extra_front x)

-- its coordinates at their limits are those of what it spells
limits_are : (f : Family) (l : List ℕ) (layout : Layout) (v : FieldsIn f) → fields_said f l layout ≡ says v → limits_of f l ≡ limit_in f v
unfolding limits_of
limits_are family.B l layout v e = rw (fields_said_lem l v ((fix_front.passes layout l v).0 (by_said family.B l layout v e).2).fields)
limits_are (family.Extra x) l layout t e = refl

-- ---- a line with added columns reads as before

module _ (f : Family) (old new : Layout) (l l' : List ℕ) (v : FieldsIn f) (sound : Sound (first_start f) new) (w : WiderLine f old new l l')
    (e : fields_said f l old ≡ says v) where
  pub says_same : fields_said f l' new ≡ says v
  says_same =
      let i = limits_are f l old v e in
      same_front f l l' old new v e w.fields
      (subst (λ at. Checked (first_start f) at new l') i (new_checked f old new l l' w sound (subst (λ at. Checked (first_start f) at old l) (sym i) (passed f l old v e))))

  column_there : length old.entries ≡ 13 → (name : List ℕ) → carries old (packed_of name) ≡ true
      → (s s' : Span) × (look_said l old name ≡ says s) × (look_said l' new name ≡ says s') × (column_text l' s' ≡ column_text l s)
  column_there full name h =
      let s = carried_there old (packed_of name) h in
      let k = kept_text f old new l l' w (packed_of name) s.0 s.1 in
      let there = look_there l old name (read_fits f l old v full e) in
      let there' = look_there l' new name (read_fits f l' new v sound.full says_same) in
      (s.0, k.0, there ∙ rw s.1, there' ∙ rw k.1, k.2)

  pub as_before : length old.entries ≡ 13 → Extends old new → AsBefore f old new l l'
  unfolding text_said look_number
  as_before full x = record {
    value = value_from f l old v;
    value' = value_from f l' new v;
    before = reading_said f l old v e;
    after = reading_said f l' new v says_same;
    same = value_before f old new l l' v (record { right = (by_said f l old v e).1; full = full }) sound x (kept_text f old new l l' w);
    text = λ name h. let k = column_there full name h in (column_text l k.0, rw k.2, rw (k.3, k.4));
    number = λ name h. let k = column_there full name h in rw (k.2, k.3, k.4);
  }
