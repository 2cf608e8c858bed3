-- A layout is its entries and nothing behind them; one that an I, a J or an M line tells is allowed, over the first start, and so is the empty one. Assumes nothing.
use Rattle.std.specs.Prelude.{None, Option, Some}
use Prim.Native.Nat.{ℕ, zero, suc, ◌+◌, ◌-◌, ◌*◌, ◌≤◌, ◌<◌}
use mathlib.Core.Bool.{Bool, true, false, ◌&&◌}
use mathlib.Core.List.{List, [], ◌∷◌, ◌++◌, append-nil, append_assoc}
use mathlib.Core.Path.{◌≡◌, refl, sym, ap, ◌∙◌}
use native.Mathlib.Omega.{arith}
use borrow.Author.Tests.{le-leb, leb-true, eqb-true, eqb-false, ne_eqb}
use lib.Dec.{eqb, leb}
use lib.ListN.{length, get_or, drop, set, replicate, length-append, length-drop, length-replicate, take-append-drop}
use lib.Seq.{take-append_seam, drop-append_seam, set-append_seam, append_snoc, length-take-le}
use Rattle.rules.specs.Families.{first_start, layout_letter}
use Rattle.rules.specs.Choice.{given, leads, first_of, Each}
use Rattle.rules.specs.Refusals.{says}
use Rattle.rules.specs.Numbers.{number_at}
use Rattle.rules.specs.declared.Span.{Span}
use Rattle.rules.specs.Layouts.{unused, empty_layout, with_entry, entries_of, span_of, look, carries, entries_from, layout_fields, all_placed, is_unused, allowed}
use Rattle.rules.specs.Lines.{shaped, layout_line}
use Rattle.rules.specs.Reads.{layout_said}
use Rattle.rules.specs.declared.Entry.{Entry}
use Rattle.rules.specs.declared.Layout.{Layout}
use Rattle.rules.specs.declared.Family.{Family}
use Rattle.rules.proofs.Inverse.{refuses_says, given_inv, need_inv, then_inv, and_inv}
use Rattle.rules_trips.proofs.Texts.{shaped_there}
use Rattle.rules_trips.proofs.Each.{each_map, nothing_found, none_found}
use Rattle.rules_sound.proofs.Entries.{with_all, Tiled, tiled_there, tiled_said, entries_there}

-- ---- a layout is its entries, and nothing behind them

-- they stand in the first of 13 slots, and the others are all zero
abbrev pub laid : List Entry → Layout
laid es = record { count = length es; entries = es ++ replicate (13 - length es) unused }

pub with_laid : (es : List Entry) (e : Entry) → length es < 13 → with_entry (laid es) e ≡ laid (es ++ (e ∷ []))
with_laid es e h =
    let n : length es + 1 ≡ length (es ++ (e ∷ [])) = simp length-append in
    let k : 13 - length es ≡ suc (13 - length (es ++ (e ∷ []))) = omega arith in
    let s : set (es ++ replicate (13 - length es) unused) (length es) e ≡ (es ++ (e ∷ [])) ++ replicate (13 - length (es ++ (e ∷ []))) unused =
    rw k (set-append_seam es unused (replicate (13 - length (es ++ (e ∷ []))) unused) e ∙ sym (append_snoc es e (replicate (13 - length (es ++ (e ∷ []))) unused))) in
    λ i. record { count = n i; entries = s i }

pub all_laid : (before es : List Entry) → length before + length es ≤ 13 → with_all (laid before) es ≡ laid (before ++ es)
all_laid before [] h = ap laid (sym (append-nil before))
all_laid before (e ∷ es) h =
    ap (λ x. with_all x es) (with_laid before e (omega arith))
    ∙ all_laid (before ++ (e ∷ [])) es (omega (arith, length-append before (e ∷ [])))
    ∙ ap laid (append_assoc before (e ∷ []) es)

pub entries_laid : (es : List Entry) → entries_of (laid es) ≡ es
entries_laid es = take-append_seam es (replicate (13 - length es) unused)

unused_there : (e : Entry) → is_unused e ≡ true → e ≡ unused
unfolding is_unused
unused_there e h =
    let a = and_inv (eqb e.first 0 && eqb e.last 0) (eqb e.code 0) h in
    let b = and_inv (eqb e.first 0) (eqb e.last 0) a.0 in
    let x = eqb-true _ _ b.0 in
    let y = eqb-true _ _ b.1 in
    let z = eqb-true _ _ a.1 in
    λ i. record { first = x i; last = y i; code = z i }

all_unused : (n : ℕ) → leads is_unused n (replicate n unused) ≡ true
unfolding leads is_unused
all_unused zero = refl
all_unused (suc n) = all_unused n

none_used : (n : ℕ) (es : List Entry) → length es ≡ n → leads is_unused n es ≡ true → es ≡ replicate n unused
unfolding leads
none_used zero [] e h = refl
none_used zero (x ∷ es) e h = absurd (omega arith)
none_used (suc n) [] e h = absurd (omega arith)
none_used (suc n) (x ∷ es) e h =
    let a = and_inv (is_unused x) (leads is_unused n es) h in
    ap (λ y. y ∷ es) (unused_there x a.0) ∙ ap (λ y. unused ∷ y) (none_used n es (omega arith) a.1)

pub laid_allowed : (start : ℕ) (es : List Entry) → length es ≤ 13 → Tiled es start empty_layout → allowed start (laid es) ≡ true
unfolding allowed
laid_allowed start es n w =
    let d : drop (length es) (es ++ replicate (13 - length es) unused) ≡ replicate (13 - length es) unused = drop-append_seam es _ in
    rw (le-leb (length es) 13 n, entries_laid es, tiled_said es start empty_layout w, d) (all_unused (13 - length es))

-- ---- entries of different codes

abbrev pub Coded : ℕ → Entry → Bool
Coded x e = eqb e.code x

-- a code is carried by none of the entries exactly where it is none of theirs
pub carries_none : (es : List Entry) (x : ℕ) → carries (laid es) x ≡ false → Each (λ e. e.code ≡ x → ⊥) es
unfolding carries look
carries_none es x h =
    each_map es (λ e. eqb-false e.code x) (nothing_found (Coded x) (λ k e. span_of e) es 0
    (ap (λ y. first_of (Coded x) (λ k e. span_of e) y 0) (sym (entries_laid es)) ∙ none_there (first_of (Coded x) (λ k e. span_of e) (entries_of (laid es)) 0) h))
  where
    none_there : (o : Option Span) → given o false (λ s. true) ≡ false → o ≡ None
    none_there None e = refl
    none_there (Some s) e = let z : ◌≡◌ {A = ℕ} 0 1 = cc in absurd (omega arith)

pub none_carries : (es : List Entry) (x : ℕ) → Each (λ e. e.code ≡ x → ⊥) es → carries (laid es) x ≡ false
unfolding carries look
none_carries es x h =
    let n = none_found (Coded x) (λ k e. span_of e) es 0 (each_map es (λ e. ne_eqb e.code x) h) in
    ap (λ o. given o false (λ s. true)) (ap (λ y. first_of (Coded x) (λ k e. span_of e) y 0) (entries_laid es) ∙ n)

-- ---- the layout of a line

-- one that a line can tell
pub record Sound (start : ℕ) (layout : Layout) : Type 0 where
  pub right : allowed start layout ≡ true
  pub full : length layout.entries ≡ 13

-- an allowed layout of 13 slots
pub record Allowed (start : ℕ) (layout : Layout) : Type 0 where
  pub few : layout.count ≤ 13
  pub count : length (entries_of layout) ≡ layout.count
  pub tiled : Tiled (entries_of layout) start empty_layout

pub allowed_there : (start : ℕ) (layout : Layout) → allowed start layout ≡ true → length layout.entries ≡ 13 → Allowed start layout × (layout ≡ laid (entries_of layout))
unfolding allowed
allowed_there start layout h n =
    let a = and_inv (leb layout.count 13 && all_placed (entries_of layout) start empty_layout) _ h in
    let b = and_inv (leb layout.count 13) (all_placed (entries_of layout) start empty_layout) a.0 in
    let c = leb-true layout.count 13 b.0 in
    let k = length-take-le layout.count layout.entries (omega arith) in
    let z = none_used (13 - layout.count) (drop layout.count layout.entries) (omega (arith, length-drop layout.count layout.entries)) a.1 in
    let e : layout.entries ≡ entries_of layout ++ replicate (13 - length (entries_of layout)) unused =
    sym (take-append-drop layout.count layout.entries)
    ∙ ap (λ x. entries_of layout ++ x) z
    ∙ ap (λ x. entries_of layout ++ replicate (13 - x) unused) (sym k) in (
      record { few = c; count = k; tiled = tiled_there (entries_of layout) start empty_layout b.1 },
      λ i. record { count = sym k i; entries = e i },
    )

sound_entries : (start nn : ℕ) (l : List ℕ) (layout : Layout) → nn ≤ 13 → entries_from nn l 3 start empty_layout ≡ says layout → Sound start layout
sound_entries start nn l layout h e =
    let r = entries_there nn l 3 (3 + 7 * nn) start empty_layout layout refl e in
    let es = r.entries in
    let few : length es ≤ 13 = omega (arith, r.count) in
    let is : layout ≡ laid es = sym r.is ∙ all_laid [] es (omega arith) in
    rw is record { right = laid_allowed start es few r.tiled; full = rw length-append (rw length-replicate (omega arith)) }

pub sound_line : (f : Family) (l : List ℕ) (layout : Layout) → layout_said f l ≡ says layout → Sound (first_start f) layout
unfolding layout_said layout_line layout_fields
sound_line f l layout h =
    let k = need_inv (eqb (get_or l 0 0) (layout_letter f)) _ (says layout) _ refuses_says h in
    let s = then_inv (shaped 3 99 false l) layout _ k.1 in
    let n = given_inv (number_at l 1 2) _ (says layout) _ refuses_says s.2 in
    let q = need_inv (eqb (length l) (3 + 7 * n.0)) _ (says layout) _ refuses_says n.2 in
    sound_entries (first_start f) n.0 l layout (omega (arith, (shaped_there 3 99 l s.0 s.1).1, eqb-true (length l) (3 + 7 * n.0) q.0)) q.1

pub sound_empty : (start : ℕ) → Sound start empty_layout
unfolding allowed all_placed leads is_unused
sound_empty start = record { right = refl; full = refl }
