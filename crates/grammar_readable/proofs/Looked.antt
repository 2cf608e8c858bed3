-- A look into the entries of a line's own reading: never 17, so the place, the text and the number of the code's column, or 19. Assumes nothing.
use Rattle.std.specs.Prelude.{None, Option, Some}
use Prim.Native.Nat.{ℕ, ◌+◌, ◌-◌, ◌≤◌}
use mathlib.Core.Bool.{true}
use mathlib.Core.List.{List}
use mathlib.Core.Path.{◌≡◌, refl, sym, ◌∙◌, ap, subst}
use native.Mathlib.Omega.{arith}
use lib.ListN.{length, get_or, drop}
use lib.Seq.{get_or-take, get_or-drop}
use Rattle.rules.specs.Choice.{given}
use Rattle.rules.specs.declared.Span.{Span}
use Rattle.rules.specs.Layouts.{entries_of, look}
use Rattle.rules.specs.Lines.{FieldsIn}
use Rattle.rules.specs.Listed.{packed_of}
use Rattle.rules.specs.Looks.{fits_line, look_said, look_text, look_number}
use Rattle.rules.specs.Reads.{fields_said, ValueOf, said_of, Reading, reading}
use Rattle.rules.specs.Refusals.{number, Said, says, refuses, no}
use Rattle.rules.specs.declared.Entry.{Entry}
use Rattle.rules.specs.declared.Family.{Family}
use Rattle.rules.specs.declared.Family.TheVariants as family
use Rattle.rules.specs.declared.Layout.{Layout}
use Rattle.rules.specs.declared.Reason.TheVariants.{Absent}
use Rattle.rules.specs.declared.Signed.{Signed}
use Rattle.rules.proofs.Inverse.{refuses_says, then_inv}
use Rattle.rules_sound.proofs.Looked.{read_fits, look_there}
use Rattle.grammar.specs.Grammar.{Carries, bytes_of}
use Rattle.grammar.specs.Looking.{GoodAnswer, LookSays, bad, NumberSays, refused, LooksExactly}
use Rattle.grammar.specs.Looking as looking
use Rattle.grammar.specs.Readings.{IsName, Spells}
use Rattle.grammar.proofs.Demands.{looks_exactly}
use Rattle.grammar.proofs.EachLine.{reading_there}
use Rattle.grammar.proofs.Finer.{carried_so}
use Rattle.grammar_readable.specs.Column.{IsTextOf, NumberOfText, ColumnLooked, there, absent}

-- ---- the entries of a reading fit its line

fields_there : (f : Family) (l : List ℕ) (layout : Layout) (v : ValueOf f) → said_of f l layout ≡ says v → (x : FieldsIn f) × (fields_said f l layout ≡ says x)
fields_there family.B l layout v e = let t = then_inv (fields_said family.B l layout) v _ e in (t.0, t.1)
fields_there (family.Extra x) l layout v e = (v, e)

pub entries_fit : (f : Family) (l : List ℕ) (layout : Layout) → length layout.entries ≡ 13 → (r : Reading (ValueOf f)) → reading f l layout ≡ says r
    → (r.entries ≡ layout) × (fits_line l r.entries ≡ true)
entries_fit f l layout full r e =
    let t = reading_there f l layout r e in
    let x = fields_there f l layout r.value t.0 in
    (t.1, rw t.1 (read_fits f l layout x.0 full x.1))

-- ---- the bytes of an entry, one by one

text_bytes : (e : Entry) (l : List ℕ) → 1 ≤ e.first → e.first ≤ e.last → (k : ℕ) → e.first ≤ k → k ≤ e.last → get_or (bytes_of e l) (k - e.first) 0 ≡ get_or l (k - 1) 0
text_bytes e l low high k a b =
    let m : e.first - 1 + (k - e.first) ≡ k - 1 = omega arith in
    get_or-take (e.last - (e.first - 1)) (drop (e.first - 1) l) (k - e.first) 0 (omega arith)
    ∙ get_or-drop (e.first - 1) l (k - e.first) 0
    ∙ ap (λ (i : ℕ). get_or l i 0) m

-- ---- the look

module _ (l : List ℕ) (es : Layout) (name : List ℕ) (named : IsName name) (fits : fits_line l es ≡ true) where
  x : LooksExactly l es name
  x = looks_exactly l es name named

  abbrev text : List ℕ
  text = look_text l (look_said l es name)

  -- where the entries fit the line, the look is never 17
  never_bad : look_said l es name ≡ refuses 17 0 0 → ⊥
  unfolding number
  never_bad e = by (look es (packed_of name)) (sym (look_there l es name fits) ∙ e)
    where
      by : (o : Option Span) → given o (no Absent 0) (λ s. says s) ≡ refuses 17 0 0 → ⊥
      by None z = let n : ◌≡◌ {A = ℕ} 19 17 = cc in omega (arith, n)
      by (Some s) z = refuses_says (sym z)

  is_text : GoodAnswer l es → (c : Carries (entries_of es) name) → IsTextOf c.entry l text
  is_text w c =
      let t = x.text w c in
      let i = carried_so _ w.inside c in
      rw t.0 (record { long = omega (arith, t.1, i.1); bytes = text_bytes c.entry l i.0 i.1 })

  module _ (w : GoodAnswer l es) (c : Carries (entries_of es) name) where
    spells : (z : Signed) → look_number l es name ≡ says z → Spells text z
    spells z e = by ((x.number (says z)).0 e) refl
      where
        by : {s : Said Signed} → NumberSays l es name s → s ≡ says z → Spells text z
        by (refused n k b h) q = absurd (refuses_says q)
        by (looking.unspelt w c h) q = absurd (refuses_says q)
        by (looking.spelt w c y h) q = let v : y ≡ z = cc in subst (Spells text) v (subst (λ (t : List ℕ). Spells t y) (sym (x.text w c).0) h)

    spells_none : look_number l es name ≡ refuses 20 0 0 → (z : Signed) → Spells text z → ⊥
    spells_none e z s = refuses_says (sym e ∙ (x.number (says z)).1 (looking.spelt w c z (subst (λ (t : List ℕ). Spells t z) (x.text w c).0 s)))

    is_number : NumberOfText l es name text
    is_number = record {
      spelt = λ z. (spells z, λ s. (x.number (says z)).1 (looking.spelt w c z (subst (λ (t : List ℕ). Spells t z) (x.text w c).0 s)));
      unspelt = (spells_none, λ n. (x.number (refuses 20 0 0)).1 (looking.unspelt w c (λ z s. n z (subst (λ (t : List ℕ). Spells t z) (sym (x.text w c).0) s))));
    }

  pub looked : ColumnLooked l es name
  looked = by ((x.place (look_said l es name)).0 refl) refl
    where
      by : {s : Said Span} → LookSays l es name s → look_said l es name ≡ s → ColumnLooked l es name
      by (bad f) e = absurd (never_bad e)
      by (looking.absent w h) e = absent h e (x.untold 19 0 0 (looking.absent w h)) ((x.number (refuses 19 0 0)).1 (refused 19 0 0 (looking.absent w h)))
      by (looking.there w c) e = there c e (is_text w c) (is_number w c)
