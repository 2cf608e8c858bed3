-- The entries of a layout that a line can tell, with a line of that layout's length, are an answer that the look takes. Assumes nothing.
use Prim.Native.Nat.{ℕ, ◌+◌, ◌-◌, ◌≤◌}
use mathlib.Core.Bool.{Bool, true, false, not}
use mathlib.Core.List.{List, [], ◌∷◌, ◌++◌}
use mathlib.Core.Path.{◌≡◌, refl, sym, ap, subst, ◌∙◌}
use native.Mathlib.Omega.{arith}
use borrow.Author.Tests.{le-leb, ne_eqb}
use lib.ListN.{length, length-append}
use Rattle.rules.specs.Choice.{given, Each}
use Rattle.rules.specs.Refusals.{says, no}
use Rattle.rules.specs.Listed.{packed_of}
use Rattle.rules.specs.Layouts.{empty_layout, with_entry, entries_of, span_of, look, line_length}
use Rattle.rules.specs.declared.Reason.TheVariants.{Absent}
use Rattle.rules.specs.declared.Entry.{Entry}
use Rattle.rules.specs.declared.Layout.{Layout}
use Rattle.rules.specs.declared.Family.{Family}
use Rattle.rules.specs.declared.Family.TheVariants as family
use Rattle.rules.specs.Families.{first_start}
use Rattle.rules.specs.Lines.{shaped_by, FieldsIn}
use Rattle.rules.specs.Reads.{fields_said}
use Rattle.rules_trips.proofs.Texts.{shaped_there}
use Rattle.rules_trips.proofs.Columned.{Fronted, by_said}
use Rattle.rules_trips.proofs.Extras.{extra_front}
use Rattle.rules_trips.proofs.Fixes.{fix_front}
use Rattle.rules_trips.proofs.Each.{each_map, each_cut, none_found}
use Rattle.rules_trips.proofs.Placing.{Fits}
use Rattle.rules_sound.proofs.Entries.{Tiled}
use Rattle.rules_sound.proofs.Placed.{laid, with_laid, Coded, carries_none, Sound, allowed_there}
use Rattle.rules_sound.proofs.Columns.{end_of, line_end}
use Rattle.rules.specs.Looks.{carried_in, twice, is_inside, are_inside, fits_line, look_said}

-- ---- no code twice

-- entries behind others have other codes than each of those
others : (es pre : List Entry) (start : ℕ) (y : Entry) → ((x : ℕ) → Each (λ z. z.code ≡ x → ⊥) pre → y.code ≡ x → ⊥) → length pre + length es ≤ 13 → Tiled es start (laid pre)
    → Each (λ x. x.code ≡ y.code → ⊥) es
others [] pre start y m n w = tt
others (x ∷ es) pre start y m n w =
    let f : Fits start (laid pre) x = w.1 in (
      λ e. m x.code (carries_none pre x.code f.once) (sym e),
      others es (pre ++ (x ∷ [])) (x.last + 1) y (λ z h. m z (each_cut _ pre (x ∷ []) h).0) (omega (arith, length-append pre (x ∷ []))) (subst (Tiled es (x.last + 1)) (with_laid pre x (omega arith)) w.2),
    )

once_each : (es pre : List Entry) (start : ℕ) → length pre + length es ≤ 13 → Tiled es start (laid pre) → twice es ≡ false
unfolding twice
once_each [] pre start n w = refl
once_each (e ∷ es) pre start n w =
    let t = subst (Tiled es (e.last + 1)) (with_laid pre e (omega arith)) w.2 in
    let k : length (pre ++ (e ∷ [])) + length es ≤ 13 = omega (arith, length-append pre (e ∷ [])) in
    let o = others es (pre ++ (e ∷ [])) (e.last + 1) e (λ z h. (each_cut _ pre (e ∷ []) h).1.0) k t in
    let h : carried_in es e.code ≡ false = ap (λ o. given o false (λ s. true)) (none_found (Coded e.code) (λ k e. span_of e) es 0 (each_map es (λ x. ne_eqb x.code e.code) o)) in
    rw h (once_each es (pre ++ (e ∷ [])) (e.last + 1) k t)

-- ---- each inside the line

end_past : (es : List Entry) (start : ℕ) (before : Layout) → 1 ≤ start → Tiled es start before → start - 1 ≤ end_of es start
end_past [] start before o w = omega arith
end_past (e ∷ es) start before o w =
    let f : Fits start before e = w.1 in
    let r = end_past es (e.last + 1) (with_entry before e) (omega arith) w.2 in
    omega (arith, r, f.starts, f.ends)

insides : (es : List Entry) (start n : ℕ) (before : Layout) → 1 ≤ start → Tiled es start before → end_of es start ≤ n → Each (λ e. is_inside n e ≡ true) es
unfolding is_inside
insides [] start n before o w h = tt
insides (e ∷ es) start n before o w h =
    let f : Fits start before e = w.1 in
    let r = end_past es (e.last + 1) (with_entry before e) (omega arith) w.2 in (
      simp (le-leb 1 e.first (omega (arith, f.starts)), le-leb e.first e.last f.ends, le-leb e.last n (omega arith)),
      insides es (e.last + 1) n (with_entry before e) (omega arith) w.2 h,
    )

-- ---- a line that is read has its layout's length

front_long : {f : Family} {At : List ℕ → FieldsIn f → Type 0} {text : FieldsIn f → List ℕ → List ℕ} {within : FieldsIn f → Bool} → Fronted f At text within
    → (l : List ℕ) (layout : Layout) (v : FieldsIn f) → fields_said f l layout ≡ says v → length l ≡ line_length (first_start f) layout
unfolding shaped_by
front_long {f} front l layout v e =
    let w = by_said f l layout v e in
    let p = (front.passes layout l v).0 w.2 in
    let s = shaped_there (line_length (first_start f) layout) (line_length (first_start f) layout) l tt p.shape in
    omega (arith, s.0, s.1)

read_long : (f : Family) (l : List ℕ) (layout : Layout) (v : FieldsIn f) → fields_said f l layout ≡ says v → length l ≡ line_length (first_start f) layout
read_long family.B = front_long fix_front
read_long (family.Extra x) = front_long (extra_front x)

pub start_low : (f : Family) → 1 ≤ first_start f
start_low family.B = omega arith
start_low (family.Extra x) = omega arith

-- ---- together

pub answer_fits : (start : ℕ) (layout : Layout) (l : List ℕ) → 1 ≤ start → Sound start layout → length l ≡ line_length start layout → fits_line l layout ≡ true
unfolding fits_line are_inside
answer_fits start layout l o s n =
    let a = allowed_there start layout s.right s.full in
    let q : length l ≡ end_of (entries_of layout) start = n ∙ ap (line_length start) a.1 ∙ line_end start (entries_of layout) in
    let i = none_found (λ (e : Entry). not (is_inside (length l) e)) (λ k e. k) (entries_of layout) 0
    (each_map (entries_of layout) (λ e. ap not) (insides (entries_of layout) start (length l) empty_layout o a.0.tiled (omega (arith, q)))) in
    simp (le-leb layout.count 13 a.0.few, once_each (entries_of layout) [] start (omega (arith, a.0.few, a.0.count)) a.0.tiled, i)

-- of a line that is read with its layout
pub read_fits : (f : Family) (l : List ℕ) (layout : Layout) (v : FieldsIn f) → length layout.entries ≡ 13 → fields_said f l layout ≡ says v → fits_line l layout ≡ true
read_fits f l layout v full e =
    answer_fits (first_start f) layout l (start_low f) (record { right = (by_said f l layout v e).1; full = full }) (read_long f l layout v e)

-- and then only the code decides
pub look_there : (l : List ℕ) (es : Layout) (name : List ℕ) → fits_line l es ≡ true → look_said l es name ≡ given (look es (packed_of name)) (no Absent 0) (λ s. says s)
unfolding look_said
look_there l es name h = rw h
