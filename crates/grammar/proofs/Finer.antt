-- The counts of a fix are what the columns of finer digits of its line make of the plain ones: by the definitions exactly as by the grammar. Assumes nothing.
use Rattle.std.specs.Prelude.{None, Option, Some}
use Prim.Native.Nat.{ℕ, suc, ◌+◌, ◌-◌, ◌*◌, ◌^◌, ◌≤◌, ◌<◌}
use mathlib.Core.Bool.{Bool, true, false, cond, or-false}
use mathlib.Core.List.{List, [], ◌∷◌, ◌++◌, append-nil}
use mathlib.Core.Path.{◌≡◌, refl, sym, ◌∙◌, ap, subst}
use native.Mathlib.Omega.{arith}
use borrow.Author.Tests.{eqb-true, eqb-false, ne_eqb, le-leb}
use lib.Dec.{eqb}
use lib.ListN.{length, get_or}
use lib.Seq.{drop-length}
use Rattle.rules.specs.Choice.{first_of, leads, bytes, Each}
use Rattle.rules.specs.Chars.{is_digit}
use Rattle.rules.specs.Numbers.{spell, number_at, digits_of}
use Rattle.rules.specs.Listed.{code_text, packed_of, listed, unlisted, listed_number, is_digits, keeps_sign, keeps_rule, tds, lad, lod}
use Rattle.rules.specs.declared.Span.{Span}
use Rattle.rules.specs.Layouts.{span_of, entries_of, look, column_text}
use Rattle.rules.specs.Fixes.{reach_of, finer_of, decimals_of, digits_at, refined, fine_position, fix_of}
use Rattle.rules.specs.declared.Entry.{Entry}
use Rattle.rules.specs.declared.Layout.{Layout}
use Rattle.rules.specs.declared.Family.TheVariants as family
use Rattle.rules.specs.declared.FixFields.{FixFields}
use Rattle.rules.specs.declared.Fix.{Fix}
use Rattle.rules.proofs.Inverse.{none_some, and_inv}
use Rattle.rules.proofs.Texts.{digits_length}
use Rattle.rules_trips.proofs.Digits.{number_there, number_here}
use Rattle.rules_trips.proofs.Each.{each_map, each_both, each_cut, nothing_found, none_found}
use Rattle.rules_trips.proofs.Placing.{Stands, all_stand}
use Rattle.rules_trips.proofs.Refined.{fine_most}
use Rattle.rules_sound.proofs.Entries.{packed_back}
use Rattle.rules_sound.proofs.Placed.{Coded}
use Rattle.rules_sound.proofs.Columns.{each_looked}
use Rattle.grammar_words.proofs.Exactly.{finer_exactly, finer_numbered}
use Rattle.grammar.specs.Grammar.{width_of, Carries, Finer, without, digits, Refines}
use Rattle.grammar.proofs.LayoutLines.{IsTold}

-- ---- entries by their codes

-- a code that is found is that of an entry
pub found_in : (x : ℕ) (es : List Entry) (n : ℕ) (s : Span) → first_of (Coded x) (λ k e. span_of e) es n ≡ Some s → Carries es (code_text x)
unfolding first_of
found_in x [] n s h = absurd (none_some h)
found_in x (e ∷ es) n s h = by (eqb e.code x) refl h (found_in x es (suc n) s)
  where
    by : (t : Bool) → eqb e.code x ≡ t → cond t (Some (span_of e)) (first_of (Coded x) (λ k e. span_of e) es (suc n)) ≡ Some s
        → (first_of (Coded x) (λ k e. span_of e) es (suc n) ≡ Some s → Carries es (code_text x)) → Carries (e ∷ es) (code_text x)
    by true q h r = record { before = []; entry = e; after = es; order = refl; coded = ap code_text (eqb-true _ _ q) }
    by false q h r =
        let c = r h in
        record { before = e ∷ c.before; entry = c.entry; after = c.after; order = ap (λ y. e ∷ y) c.order; coded = c.coded }

-- what is so of each entry is so of the one that has a code
pub carried_so : {es : List Entry} {name : List ℕ} (P : Entry → Type 0) → Each P es → (c : Carries es name) → P c.entry
carried_so P h c = (each_cut P c.before (c.entry ∷ c.after) (subst (Each P) c.order h)).1.0

pub one_code : (x y : ℕ) → code_text x ≡ code_text y → x ≡ y
one_code x y e = sym (packed_back x) ∙ ap packed_of e ∙ packed_back y

-- ---- a text of digits

spelt_digits : (l : List ℕ) (w : ℕ) → leads is_digit (length l) l ≡ true → (v : ℕ) × (spell (length l) w l ≡ Some v)
unfolding leads spell
spelt_digits [] w h = (w, refl)
spelt_digits (b ∷ l) w h =
    let d = and_inv (is_digit b) _ h in
    let r = spelt_digits l (w * 10 + (b - 48)) d.1 in
    (r.0, ap (λ t. cond t (spell (length l) (w * 10 + (b - 48)) l) None) d.0 ∙ r.1)

-- up to 18 digits are those of a number
digits_there : (t : List ℕ) → is_digits t ≡ true → length t ≤ 18 → (v : ℕ) × (number_at t 0 (length t) ≡ Some v) × (t ≡ digits_of (length t) v) × (v < 10 ^ length t)
unfolding is_digits number_at
digits_there t h m =
    let r = spelt_digits t 0 h in
    let e : number_at t 0 (length t) ≡ Some r.0 = rw (le-leb _ _ m) r.1 in
    let n = number_there t 0 (length t) (length t) r.0 (omega arith) e in
    (r.0, e, n.0 ∙ ap (λ x. digits_of (length t) r.0 ++ x) (drop-length t) ∙ append-nil (digits_of (length t) r.0), n.1)

-- ---- one count

module _ (layout : Layout) (told : IsTold family.B layout) (l : List ℕ) (wide : Each (λ e. length (column_text l (span_of e)) ≡ width_of e) (entries_of layout)) where
  -- an entry of the layout: it is found by its code, stands from byte 36 on, and its text is as wide as it says
  record At (e : Entry) : Type 0 where
    looked : look layout e.code ≡ Some (span_of e)
    stands : Stands 36 e
    long : length (column_text l (span_of e)) ≡ width_of e

  each_at : Each At (entries_of layout)
  each_at =
      let es = entries_of layout in
      each_map es (λ e h. record { looked = h.0; stands = h.1.0; long = h.1.1 })
      (each_both es (λ e. look layout e.code ≡ Some (span_of e)) (λ e. Stands 36 e × (length (column_text l (span_of e)) ≡ width_of e)) (each_looked 36 layout told)
      (each_both es (Stands 36) (λ e. length (column_text l (span_of e)) ≡ width_of e) (all_stand 36 layout told.right) wide))

  -- where a code's column stands, and how wide it is
  reach_is : (x : ℕ) (e : Entry) → At e → e.code ≡ x → reach_of layout x ≡ record { first = e.first; last = e.last }
  unfolding reach_of
  reach_is x e w i = rw (← i, w.looked)

  wide_is : (x : ℕ) (e : Entry) → At e → e.code ≡ x → decimals_of (reach_of layout x) ≡ width_of e
  unfolding decimals_of
  wide_is x e w i = rw (reach_is x e w i, ne_eqb e.first 0 (λ z. omega (arith, w.stands.starts))) (omega (arith, w.stands.ends))

  digits_are : (x : ℕ) (e : Entry) (v : ℕ) → At e → e.code ≡ x → number_at (column_text l (span_of e)) 0 (width_of e) ≡ Some v → digits_at l (reach_of layout x) ≡ v
  unfolding digits_at
  digits_are x e v w i n = rw (wide_is x e w i, reach_is x e w i, n)

  -- without the column
  without_is : (x old : ℕ) → look layout x ≡ None → (refined old l (reach_of layout x) ≡ old) × (decimals_of (reach_of layout x) ≡ 0)
  unfolding reach_of refined decimals_of digits_at number_at spell
  without_is x old e = (rw e (omega arith), rw e)

  module _ (x old : ℕ) (few : decimals_of (reach_of layout x) ≤ 4) where
    finer_there : Each (λ e. e.code ≡ x → is_digits (column_text l (span_of e)) ≡ true) (entries_of layout)
        → Finer (code_text x) (entries_of layout) l old (refined old l (reach_of layout x)) (decimals_of (reach_of layout x))
    unfolding look refined
    finer_there h = by (look layout x) refl
      where
        by : (o : Option Span) → look layout x ≡ o → Finer (code_text x) (entries_of layout) l old (refined old l (reach_of layout x)) (decimals_of (reach_of layout x))
        by None e =
            let r = without_is x old e in
            without (each_map (entries_of layout) (λ e n i. eqb-false _ _ n (one_code _ _ i)) (nothing_found (Coded x) (λ k e. span_of e) (entries_of layout) 0 e)) r.0 r.1
        by (Some s) e =
            let c = found_in x (entries_of layout) 0 s e in
            let i = one_code _ _ c.coded in
            let w = carried_so At each_at c in
            let n : length (column_text l (span_of c.entry)) ≡ decimals_of (reach_of layout x) = w.long ∙ sym (wide_is x c.entry w i) in
            let d = digits_there (column_text l (span_of c.entry)) (carried_so _ h c i) (omega (arith, few, n)) in
            let v = digits_are x c.entry d.0 w i (ap (number_at (column_text l (span_of c.entry)) 0) (sym w.long) ∙ d.1) in
            digits c d.0 (d.2 ∙ ap (λ k. digits_of k d.0) n) (subst (λ k. d.0 < 10 ^ k) n d.3) (ap (λ z. old * 10 ^ decimals_of (reach_of layout x) + z) v)

    finer_here : (count decimals : ℕ) → Finer (code_text x) (entries_of layout) l old count decimals
        → (count ≡ refined old l (reach_of layout x)) × (decimals ≡ decimals_of (reach_of layout x))
    unfolding look refined
    finer_here count decimals (without n c d) =
        let r = without_is x old (none_found (Coded x) (λ k e. span_of e) (entries_of layout) 0 (each_map (entries_of layout) (λ e n. ne_eqb e.code x (λ i. n (ap code_text i))) n)) in
        (c ∙ sym r.0, d ∙ sym r.1)
    finer_here count decimals (digits c v t f e) =
        let i = one_code _ _ c.coded in
        let w = carried_so At each_at c in
        let n : decimals ≡ decimals_of (reach_of layout x) = sym (digits_length decimals v) ∙ ap length (sym t) ∙ w.long ∙ sym (wide_is x c.entry w i) in
        let r = number_here (column_text l (span_of c.entry)) 0 decimals v [] (omega (arith, few, n)) f (t ∙ sym (append-nil (digits_of decimals v))) in
        let k = digits_are x c.entry v w i (ap (number_at (column_text l (span_of c.entry)) 0) (sym (wide_is x c.entry w i) ∙ sym n) ∙ r) in
        (rw (← n, k) e, n)

-- ---- the fix

-- a listed column that may have no minus holds digits
unsigned : (x n : ℕ) (t : List ℕ) → listed_number x ≡ Some n → (get_or listed n unlisted).sign ≡ false → keeps_rule x t ≡ true → is_digits t ≡ true
unfolding keeps_rule keeps_sign
unsigned x n t e s h = sym (or-false (is_digits t)) ∙ (rw (e, s) at h)

-- by a code, or by its name
renamed : {name other : List ℕ} {es : List Entry} {l : List ℕ} {old count decimals : ℕ} → name ≡ other → Finer name es l old count decimals → Finer other es l old count decimals
renamed {es = es} {l = l} {old = old} {count = count} {decimals = decimals} e = subst (λ name. Finer name es l old count decimals) e

module _ (layout : Layout) (told : IsTold family.B layout) (l : List ℕ) (wide : Each (λ e. length (column_text l (span_of e)) ≡ width_of e) (entries_of layout)) (plain : FixFields) where
  pub refines_there : Each (λ (e : Entry). keeps_rule e.code (column_text l (span_of e)) ≡ true) (entries_of layout) → Refines (entries_of layout) l plain (fix_of l (finer_of layout) plain)
  unfolding fix_of finer_of fine_position listed bytes
  refines_there h =
      let m = fine_most layout told.right in
      let held : (x n : ℕ) → listed_number x ≡ Some n → (get_or listed n unlisted).sign ≡ false → Each (λ e. e.code ≡ x → is_digits (column_text l (span_of e)) ≡ true) (entries_of layout) =
      λ x n e s. each_map (entries_of layout) (λ c k i. unsigned x n _ e s (rw i at k)) h in
      record {
        time = renamed finer_exactly.0 (finer_there layout told l wide tds plain.time (omega (arith, m.0)) (held tds 10 finer_numbered.0 refl));
        lat = renamed finer_exactly.1 (finer_there layout told l wide lad plain.lat.count m.1 (held lad 11 finer_numbered.1 refl));
        lat_letter = refl;
        lon = renamed finer_exactly.2 (finer_there layout told l wide lod plain.lon.count m.2 (held lod 12 finer_numbered.2 refl));
        lon_letter = refl;
        validity = refl;
        pressure = refl;
        gnss = refl;
      }

  pub refines_here : (f : Fix) → Refines (entries_of layout) l plain f → fix_of l (finer_of layout) plain ≡ f
  unfolding fix_of finer_of fine_position
  refines_here f w =
      let m = fine_most layout told.right in
      let t = finer_here layout told l wide tds plain.time (omega (arith, m.0)) _ _ (renamed (sym finer_exactly.0) w.time) in
      let a = finer_here layout told l wide lad plain.lat.count m.1 _ _ (renamed (sym finer_exactly.1) w.lat) in
      let o = finer_here layout told l wide lod plain.lon.count m.2 _ _ (renamed (sym finer_exactly.2) w.lon) in
      λ i. record {
        time = record { count = sym t.0 i; decimals = sym t.1 i };
        lat = record { count = sym a.0 i; letter = sym w.lat_letter i; decimals = sym a.1 i };
        lon = record { count = sym o.0 i; letter = sym w.lon_letter i; decimals = sym o.1 i };
        validity = sym w.validity i;
        pressure = sym w.pressure i;
        gnss = sym w.gnss i;
      }
