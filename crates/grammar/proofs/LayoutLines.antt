-- I, J and M lines both ways: the entries that a line is read as are those that it has, and they tile in the grammar's words; such a line reads as a layout exactly when it is
-- the text of entries that tile, and the layout is theirs; and so exactly when the layout is allowed and has 13 slots. Assumes nothing.
use Rattle.std.specs.Prelude.{Option, Some}
use Prim.Native.Nat.{ℕ, zero, suc, ◌+◌, ◌*◌, ◌/◌, ◌%◌, ◌≤◌}
use mathlib.Core.Bool.{true, false, ◌&&◌}
use mathlib.Core.List.{List, [], ◌∷◌, ◌++◌, append_assoc, append-nil}
use mathlib.Core.Path.{◌≡◌, refl, sym, ◌∙◌, ap, subst}
use mathlib.Core.Logic.{◌↔◌}
use native.Mathlib.Omega.{arith}
use borrow.Author.Tests.{le-leb, leb-true, eqb-true, eq-eqb, ne_eqb}
use lib.Dec.{eqb, leb}
use lib.ListN.{length, get_or, drop, length-append}
use lib.Seq.{drop-length}
use Rattle.rules.specs.Families.{first_start, layout_letter}
use Rattle.rules.specs.Choice.{Each}
use Rattle.rules.specs.Refusals.{says}
use Rattle.rules.specs.Chars.{is_code, is_valid}
use Rattle.rules.specs.Numbers.{number_at, digits_of}
use Rattle.rules.specs.Listed.{code_text, code_at, is_code_word}
use Rattle.rules.specs.Layouts.{empty_layout, with_entry, entries_of, entry_at, entries_from, is_spelt, allowed, layout_fields}
use Rattle.rules.specs.Writes.{entry_text, entry_texts, layout_text}
use Rattle.rules.specs.declared.Entry.{Entry}
use Rattle.rules.specs.declared.Layout.{Layout}
use Rattle.rules.specs.declared.Family.{Family}
use Rattle.rules.specs.Lines.{shaped, layout_line}
use Rattle.rules.specs.Reads.{layout_said}
use Rattle.rules.specs.declared.Extra.TheVariants as extra
use Rattle.rules.specs.declared.Family.TheVariants as family
use Rattle.rules.proofs.Inverse.{refuses_says, given_inv, need_inv, then_inv, and_inv}
use Rattle.rules.proofs.Texts.{digits_length, entries_length}
use Rattle.rules_trips.proofs.Laws.{past, byte_there}
use Rattle.rules_trips.proofs.Texts.{are_valid, both_valid, shaped_here}
use Rattle.rules_trips.proofs.Digits.{number_there, number_here, digits_clean}
use Rattle.grammar_words.proofs.Characters.{word_exactly}
use Rattle.grammar_words.proofs.Codes.{width_exactly}
use Rattle.grammar.specs.Grammar.{width_of, IsEntry, Tiles, laid, IsLayoutLine, AtMostOne, absent}
use Rattle.grammar.specs.Grammar as grammar
use Rattle.grammar.specs.Coming.{or_zero, entry_of, entries_in}
use Rattle.rules_trips.proofs.Each.{each_map, each_both, each_join, each_cut}
use Rattle.rules_trips.proofs.Placing.{Fits}
use Rattle.rules_sound.proofs.Entries.{code_range, entry_there, Tiled, with_all, entries_here}
use Rattle.rules_sound.proofs.Placed.{with_laid, all_laid, entries_laid, carries_none, none_carries, Sound, allowed_there, sound_line, sound_empty}
use Rattle.grammar.proofs.Laws.{shape_there}

-- ---- the entries that a line has

-- what was read of a field is its value
pub there : {v : ℕ} (o : Option ℕ) → o ≡ Some v → or_zero o ≡ v
there o e = rw e

pub entry_of_lem : (l : List ℕ) (at start : ℕ) (before : Layout) (e : Entry) → entry_at l at start before ≡ says e → entry_of l at ≡ e
entry_of_lem l at start before e h =
    let w = entry_there l at (at + 7) start before e refl h in
    rw (there (number_at l at 2) w.at_first, there (number_at l (at + 2) 2) w.at_last, there (code_at l (at + 4)) w.at_code)

count_in_lem : (left : ℕ) (l : List ℕ) (at : ℕ) → length (entries_in left l at) ≡ left
unfolding entries_in
count_in_lem zero l at = refl
count_in_lem (suc left) l at = ap suc (count_in_lem left l (at + 7))

entries_in_lem : (left : ℕ) (l : List ℕ) (at to start : ℕ) (before layout : Layout) → at + 7 * left ≡ to → entries_from left l at start before ≡ says layout
    → (with_all before (entries_in left l at) ≡ layout) × Tiled (entries_in left l at) start before × (drop at l ≡ entry_texts (entries_in left l at) ++ drop to l)
unfolding entries_from entry_texts entries_in
entries_in_lem zero l at to start before layout t h = let i : at ≡ to = omega arith in (cc, tt, ap (λ n. drop n l) i)
entries_in_lem (suc left) l at to start before layout t h =
    let a = then_inv (entry_at l at start before) layout _ h in
    let w = entry_there l at (at + 7) start before a.0 refl a.1 in
    let r = entries_in_lem left l (at + 7) to (a.0.last + 1) (with_entry before a.0) layout (omega arith) a.2 in
    let es = entries_in left l (at + 7) in
    subst (λ x. (with_all before (x ∷ es) ≡ layout) × Tiled (x ∷ es) start before × (drop at l ≡ entry_texts (x ∷ es) ++ drop to l)) (sym (entry_of_lem l at start before a.0 a.1))
    (r.0, (w.spelt, w.fits, r.1), w.text ∙ ap (λ x. entry_text a.0 ++ x) r.2 ∙ sym (append_assoc (entry_text a.0) (entry_texts es) (drop to l)))

-- ---- entries tile in the grammar's words

-- entries behind others: they tile, and none has a code of those
tiles_there : (es : List Entry) (start : ℕ) (pre : List Entry) → length pre + length es ≤ 13 → Tiled es start (laid pre)
    → Tiles start es × Each (λ e. Each (λ a. a.code ≡ e.code → ⊥) pre) es
unfolding is_spelt
tiles_there [] start pre n w = (tt, tt)
tiles_there (e ∷ es) start pre n w =
    let f : Fits start (laid pre) e = w.1 in
    let s = and_inv (leb e.last 99) (is_code_word e.code) w.0 in
    let r = tiles_there es (e.last + 1) (pre ++ (e ∷ [])) (omega (arith, length-append pre (e ∷ []))) (subst (Tiled es (e.last + 1)) (with_laid pre e (omega arith)) w.2) in
    let c = each_map es (λ x. each_cut (λ a. a.code ≡ x.code → ⊥) pre (e ∷ [])) r.1 in (
      (
        record { starts = f.starts; ends = f.ends; spelt = leb-true _ _ s.0; word = (word_exactly e.code).0 s.1; wide = (width_exactly e.code (width_of e)).0 f.wide },
        each_map es (λ x h i. h.1.0 (sym i)) c,
        r.0,
      ),
      (carries_none pre e.code f.once, each_map es (λ x h. h.0) c),
    )

tiles_here : (es : List Entry) (start : ℕ) (pre : List Entry) → length pre + length es ≤ 13 → Tiles start es → Each (λ e. Each (λ a. a.code ≡ e.code → ⊥) pre) es
    → Tiled es start (laid pre)
unfolding is_spelt
tiles_here [] start pre n w c = tt
tiles_here (e ∷ es) start pre n w c =
    let f : IsEntry start e = w.0 in
    let d = each_both es (λ x. Each (λ a. a.code ≡ x.code → ⊥) pre) (λ x. x.code ≡ e.code → ⊥) c.1 w.1 in
    let r = tiles_here es (e.last + 1) (pre ++ (e ∷ [])) (omega (arith, length-append pre (e ∷ []))) w.2
    (each_map es (λ x h. each_join (λ a. a.code ≡ x.code → ⊥) pre (e ∷ []) h.0 ((λ i. h.1 (sym i)), tt)) d) in (
      rw (le-leb _ _ f.spelt) ((word_exactly e.code).1 f.word),
      record { starts = f.starts; ends = f.ends; once = none_carries pre e.code c.0; wide = (width_exactly e.code (width_of e)).1 f.wide },
      subst (Tiled es (e.last + 1)) (sym (with_laid pre e (omega arith))) r,
    )

all_alone : (es : List Entry) → Each (λ e. Each (λ (a : Entry). a.code ≡ e.code → ⊥) []) es
all_alone [] = tt
all_alone (e ∷ es) = (tt, all_alone es)

tiled_tiles : (es : List Entry) (start : ℕ) → length es ≤ 13 → Tiled es start empty_layout → Tiles start es
tiled_tiles es start n w = (tiles_there es start [] (omega arith) w).0

tiles_tiled : (es : List Entry) (start : ℕ) → length es ≤ 13 → Tiles start es → Tiled es start empty_layout
tiles_tiled es start n w = tiles_here es start [] (omega arith) w (all_alone es)

-- a layout that a line can tell
abbrev pub IsTold : Family → Layout → Type 0
IsTold f layout = Sound (first_start f) layout

pub told_tiles : (start : ℕ) (layout : Layout) → Sound start layout → Tiles start (entries_of layout)
told_tiles start layout t =
    let a = (allowed_there start layout t.right t.full).0 in
    tiled_tiles (entries_of layout) start (omega (arith, a.few, a.count)) a.tiled

letter_is : (f : Family) → (1 ≤ layout_letter f) × (is_valid false (layout_letter f) ≡ true)
unfolding is_valid
letter_is family.B = (omega arith, refl)
letter_is (family.Extra extra.K) = (omega arith, refl)
letter_is (family.Extra extra.N) = (omega arith, refl)

-- ---- a line that reads as a layout

module _ (f : Family) (layout : Layout) (l : List ℕ) (h : layout_line (first_start f) l ≡ says layout) where
  -- NN, and NN entries
  read : (nn : ℕ) × (number_at l 1 2 ≡ Some nn) × (length l ≤ 99) × (nn ≤ 13) × (layout ≡ laid (entries_in nn l 3))
      × Tiled (entries_in nn l 3) (first_start f) empty_layout × (drop 3 l ≡ entry_texts (entries_in nn l 3))
  unfolding layout_line layout_fields
  read =
      let s = then_inv (shaped 3 99 false l) layout _ h in
      let w = shape_there 3 99 false l tt s.1 in
      let n = given_inv (number_at l 1 2) _ (says layout) _ refuses_says s.2 in
      let m = need_inv (eqb (length l) (3 + 7 * n.0)) _ (says layout) _ refuses_says n.2 in
      let long : length l ≡ 3 + 7 * n.0 = eqb-true _ _ m.0 in
      let few : n.0 ≤ 13 = omega (arith, w.short) in
      let r = entries_in_lem n.0 l 3 (length l) (first_start f) empty_layout layout (sym long) m.1 in
      let es = entries_in n.0 l 3 in
      let text : drop 3 l ≡ entry_texts es = r.2 ∙ ap (λ x. entry_texts es ++ x) (drop-length l) ∙ append-nil (entry_texts es) in
      (n.0, n.1, w.short, few, sym r.0 ∙ all_laid [] es (omega (arith, count_in_lem n.0 l 3)), r.1, text)

  -- the layout is that of the entries that the line has
  pub layout_laid : layout ≡ laid (entries_in (or_zero (number_at l 1 2)) l 3)
  layout_laid = read.4 ∙ ap (λ n. laid (entries_in n l 3)) (sym (there (number_at l 1 2) read.1))

  pub layout_there : get_or l 0 0 ≡ layout_letter f → IsLayoutLine f layout l
  layout_there k =
      let r = read in
      let es = entries_in r.0 l 3 in
      let n = count_in_lem r.0 l 3 in
      let text : l ≡ layout_letter f ∷ (digits_of 2 r.0 ++ entry_texts es) =
      byte_there l 0 1 (layout_letter f) refl (letter_is f).0 k ∙ ap (λ x. layout_letter f ∷ x) ((number_there l 1 2 3 r.0 refl r.1).0 ∙ ap (λ x. digits_of 2 r.0 ++ x) r.6) in
      record {
        entries = es;
        tiles = tiled_tiles es (first_start f) (omega (arith, r.3)) r.5;
        text = text ∙ ap (λ x. layout_letter f ∷ (digits_of 2 x ++ entry_texts es)) (sym n);
        short = r.2;
        slots = r.4;
      }

-- ---- and a layout's own line

code_valid : (b : ℕ) → is_code b ≡ true → is_valid false b ≡ true
unfolding is_valid
code_valid b e =
    let r = code_range b e in
    simp (le-leb 0x20 b (omega arith), le-leb b 0x7D (omega arith), ne_eqb b 0x21 (omega arith), ne_eqb b 0x24 (omega arith), ne_eqb b 0x2A (omega arith), ne_eqb b 0x5C (omega arith), ne_eqb b 0x5E (omega arith), ne_eqb b 0x2C (omega arith))

entries_clean : (es : List Entry) (start : ℕ) (before : Layout) → Tiled es start before → are_valid (entry_texts es) ≡ true
unfolding entry_texts entry_text is_spelt is_code_word are_valid
entries_clean [] start before w = refl
entries_clean (e ∷ es) start before w =
    let c = (and_inv (leb e.last 99) _ w.0).1 in
    let p = and_inv (is_code (e.code / 65536) && is_code (e.code / 256 % 256)) (is_code (e.code % 256)) c in
    let q = and_inv (is_code (e.code / 65536)) (is_code (e.code / 256 % 256)) p.0 in
    let x : are_valid (code_text e.code) ≡ true = simp (code_valid _ q.0, code_valid _ q.1, code_valid _ p.1) in
    both_valid (entry_text e) (entry_texts es)
    (both_valid (digits_of 2 e.first) _ (digits_clean 2 e.first) (both_valid (digits_of 2 e.last) (code_text e.code) (digits_clean 2 e.last) x))
    (entries_clean es _ _ w.2)

module _ (f : Family) (es : List Entry) where
  abbrev own : List ℕ
  own = layout_letter f ∷ (digits_of 2 (length es) ++ entry_texts es)

  own_length : length own ≡ 3 + 7 * length es
  own_length = simp (length-append, digits_length, entries_length) (omega arith)

  own_clean : Tiled es (first_start f) empty_layout → are_valid own ≡ true
  unfolding are_valid
  own_clean tiled = rw (letter_is f).1 (both_valid (digits_of 2 (length es)) (entry_texts es) (digits_clean 2 (length es)) (entries_clean es _ _ tiled))

  own_reads : length es ≤ 13 → Tiled es (first_start f) empty_layout → layout_line (first_start f) own ≡ says (laid es)
  unfolding layout_line layout_fields
  own_reads few tiled =
      let n = own_length in
      let s = shaped_here 3 99 own (omega arith) (omega arith) (own_clean tiled) in
      let c = number_here own 1 2 (length es) (entry_texts es) (omega arith) (omega arith) refl in
      let d = past own 1 2 3 (digits_of 2 (length es)) (entry_texts es) (digits_length 2 (length es)) refl refl in
      let r = entries_here es own 3 (first_start f) empty_layout [] tiled (d ∙ sym (append-nil (entry_texts es))) in
      rw (s, c, eq-eqb (length own) (3 + 7 * length es) n, r) (ap says (all_laid [] es (omega arith)))

-- 99 bytes hold 13 entries
few_entries : (f : Family) (layout : Layout) (l : List ℕ) (w : IsLayoutLine f layout l) → length w.entries ≤ 13
few_entries f layout l w =
    let n : length l ≡ suc (length (digits_of 2 (length w.entries) ++ entry_texts w.entries)) = ap length w.text in
    omega (arith, w.short, simp (length-append, digits_length, entries_length) at n)

pub layout_said_lem : (f : Family) (layout : Layout) (l : List ℕ) → IsLayoutLine f layout l → (get_or l 0 0 ≡ layout_letter f) × (layout_line (first_start f) l ≡ says layout)
layout_said_lem f layout l w =
    let n = few_entries f layout l w in
    let t = tiles_tiled w.entries (first_start f) n w.tiles in (
      ap (λ y. get_or y 0 0) w.text,
      ap (layout_line (first_start f)) w.text ∙ own_reads f w.entries n t ∙ ap says (sym w.slots),
    )

-- ---- the theorems

module _ (f : Family) (layout : Layout) where
  reads_line : (l : List ℕ) → layout_said f l ≡ says layout → IsLayoutLine f layout l
  unfolding layout_said
  reads_line l e =
      let k = need_inv (eqb (get_or l 0 0) (layout_letter f)) _ (says layout) _ refuses_says e in
      layout_there f layout l k.1 (eqb-true _ _ k.0)

  line_reads : (l : List ℕ) → IsLayoutLine f layout l → layout_said f l ≡ says layout
  unfolding layout_said
  line_reads l w = let s = layout_said_lem f layout l w in rw (eq-eqb _ _ s.0) s.1

  pub own_line : IsTold f layout → IsLayoutLine f layout (layout_text f layout)
  unfolding layout_text
  own_line i =
      let a = allowed_there (first_start f) layout i.right i.full in
      let c = a.0.count in
      let es = entries_of layout in
      let t : layout_text f layout ≡ own f es = ap (λ i. layout_letter f ∷ (digits_of 2 i ++ entry_texts es)) (sym c) in
      record {
        entries = es;
        tiles = told_tiles (first_start f) layout i;
        text = t;
        short = omega (arith, a.0.few, c, ap length t, own_length f es);
        slots = a.1;
      }

  reads_text : (l : List ℕ) → layout_said f l ≡ says layout → l ≡ layout_text f layout
  unfolding layout_text
  reads_text l e =
      let w = reads_line l e in
      w.text
      ∙ ap (λ x. layout_letter f ∷ (digits_of 2 (length w.entries) ++ entry_texts x)) (sym (entries_laid w.entries))
      ∙ ap (λ x. layout_letter f ∷ (digits_of 2 x.count ++ entry_texts (entries_of x))) (sym w.slots)

  -- a line reads as the layout exactly when it is an I, a J or an M line of it
  pub layout_line_exactly : (l : List ℕ) → (layout_said f l ≡ says layout) ↔ IsLayoutLine f layout l
  layout_line_exactly l = (reads_line l, line_reads l)

  -- of 13 slots: a line reads as the layout exactly when it is the layout's text and the layout is allowed
  pub layout_exactly : (l : List ℕ) → length layout.entries ≡ 13 → (layout_said f l ≡ says layout) ↔ ((l ≡ layout_text f layout) × (allowed (first_start f) layout ≡ true))
  layout_exactly l n = (
    λ e. (reads_text l e, (sound_line f l layout e).right),
    λ h. line_reads l (subst (IsLayoutLine f layout) (sym h.0) (own_line (record { right = h.1; full = n }))),
  )

-- ---- such a layout is one that a line can tell

pub layout_told : (f : Family) (layout : Layout) (l : List ℕ) → IsLayoutLine f layout l → IsTold f layout
layout_told f layout l w = sound_line f l layout (line_reads f layout l w)

-- so is the empty one, where there is no such line
pub told : (f : Family) {layout : Layout} {ls : List (List ℕ)} → AtMostOne f layout ls → IsTold f layout
told f absent = sound_empty (first_start f)
told f (grammar.given {layout = i} {l = l} w) = layout_told f i l w
