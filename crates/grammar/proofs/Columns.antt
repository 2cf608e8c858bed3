-- The columns of a line: by an allowed layout its tail is good exactly when it is the columns one behind the other; a code of the layout leads to its entry's bytes, as many
-- as it is wide, and to the number that they spell, every other code to none, and together they are the tail. Assumes nothing.
use Rattle.std.specs.Prelude.{None, Option, Some}
use Prim.Native.Nat.{ℕ, suc, ◌+◌, ◌-◌, ◌≤◌, zero, ◌^◌, ◌/◌, ◌%◌, ◌<◌}
use Prim.Native.Char.{code}
use mathlib.Core.Bool.{true, false, Bool, cond}
use mathlib.Core.List.{List, [], ◌∷◌, ◌++◌, append-nil}
use mathlib.Core.Logic.{◌↔◌}
use mathlib.Core.Path.{◌≡◌, refl, sym, ◌∙◌, ap, subst}
use native.Mathlib.Omega.{arith}
use borrow.Author.Tests.{eqb-true, eq-eqb, ne_eqb, not-false, le-leb, leb-true}
use lib.Dec.{eqb, leb}
use lib.ListN.{length, get_or, take, drop, length-append, length-drop, take-append-drop}
use lib.Seq.{drop-drop, drop_at, take_at, length-take-le, drop-length}
use lib.IntN.{pos, neg_ℤ}
use Rattle.rules.specs.Choice.{part, Each, given, need, on}
use Rattle.rules.specs.Listed.{keeps_limit, packed_of, code_text}
use Rattle.rules.specs.declared.Span.{Span}
use Rattle.rules.specs.Layouts.{entries_of, allowed, line_length, span_of, look, column_text}
use Rattle.rules.specs.declared.AtLimit.{AtLimit}
use Rattle.rules.specs.declared.Entry.{Entry}
use Rattle.rules.specs.declared.Layout.{Layout}
use Rattle.rules.specs.Limits.{is_clean, bad_tail, good_tail}
use Rattle.rules.specs.Families.{first_start}
use Rattle.rules.specs.Refusals.{says, refuses, number}
use Rattle.rules.specs.Numbers.{number_at, digits_of, whole_of}
use Rattle.rules.specs.Looks.{fits_line, look_said, look_text, look_number}
use Rattle.rules.specs.declared.Signed.{Signed}
use Rattle.rules.specs.declared.Family.{Family}
use Rattle.rules.proofs.Inverse.{false_true, need_inv, none_some, given_inv}
use Rattle.rules.proofs.Texts.{digits_length}
use Rattle.rules_trips.proofs.Texts.{clean_valid}
use Rattle.rules_trips.proofs.Laws.{byte_there}
use Rattle.rules_trips.proofs.Digits.{digits_front, number_there, number_here}
use Rattle.grammar_words.specs.Characters.{IsValid}
use Rattle.grammar_words.specs.Codes.{RowSays, Holds}
use Rattle.grammar_words.specs.Finer.{OnlyZeros, Zeros}
use Rattle.grammar.specs.Grammar.{width_of, IsEntry, Tiles, Columns, none, column}
use Rattle.grammar.specs.Readings.{Spells, plain, minus, NumberOf, ReadsColumn, column_texts, IsName, ReadsColumns}
use Rattle.rules_trips.proofs.Each.{each_map, each_both, each_join, each_cut, nothing_found, none_found}
use Rattle.rules_sound.proofs.Entries.{unpacked, packed_back}
use Rattle.rules_sound.proofs.Placed.{Coded, Sound, allowed_there}
use Rattle.rules_sound.proofs.Columns.{each_looked, end_of, line_end}
use Rattle.rules_sound.proofs.Looked.{look_there}
use Rattle.grammar.proofs.Laws.{are_valid_lem, valid_are, nothing_given}
use Rattle.grammar.proofs.LayoutLines.{told_tiles}

-- ---- where a line ends

-- no entry ends before the first starts
pub end_past : (es : List Entry) (from : ℕ) → Tiles from es → 1 ≤ from → from ≤ end_of es from + 1
end_past [] from w h = omega arith
end_past (e ∷ es) from w h =
    let f : IsEntry from e = w.0 in
    let r = end_past es (e.last + 1) w.2 (omega arith) in
    omega (arith, f.starts, f.ends)

-- one column less, or more, ends where the line ends
past_column : (first last from all left end : ℕ) → first ≡ from → first ≤ last → 1 ≤ from → last - first + 1 ≤ all → from - 1 + all ≡ end
    → left ≡ all - (last - first + 1) → last + 1 - 1 + left ≡ end
past_column first last from all left end a b c d e f = omega arith

with_column : (first last from wide left end : ℕ) → first ≡ from → first ≤ last → 1 ≤ from → wide ≡ last - first + 1 → last + 1 - 1 + left ≡ end
    → from - 1 + (wide + left) ≡ end
with_column first last from wide left end a b c d e = omega arith

-- ---- the columns of a tail

-- what it means that a column keeps its code's rule, where `AtLat` and `AtLon` say that a coordinate is at its limit
pub record Meant (at : AtLimit) (AtLat AtLon : Type 0) : Type 0 where
  pub exactly : (x : ℕ) (t : List ℕ) → (keeps_limit at x t ≡ true) ↔ (RowSays x (λ p. Holds p.name t) × (OnlyZeros AtLat AtLon (code_text x) → Zeros t))

module _ (at : AtLimit) (AtLat AtLon : Type 0) (meant : Meant at AtLat AtLon) (start : ℕ) (tail : List ℕ) where
  -- the text of an entry's column keeps its code's rule
  abbrev Keeps : Entry → Type 0
  Keeps e = keeps_limit at e.code (part (e.first - start) (e.last + 1 - start) tail) ≡ true

  -- what is left of the tail, from byte `from` of the line on, is the text of these entries
  record Left (es : List Entry) (from : ℕ) (rest : List ℕ) : Type 0 where
    here : drop (from - start) tail ≡ rest
    long : from - 1 + length rest ≡ end_of es from
    valid : Each (IsValid false) rest
    ruled : Each Keeps es

  module _ (low : 1 ≤ start) where
    columns_there : (es : List Entry) (from : ℕ) (rest : List ℕ) → Tiles from es → start ≤ from → Left es from rest → Columns AtLat AtLon es rest
    columns_there [] from [] w h c = none
    columns_there [] from (b ∷ rest) w h c = absurd (omega (arith, c.long))
    columns_there (e ∷ es) from rest w h c =
        let f : IsEntry from e = w.0 in
        let n = end_past es (e.last + 1) w.2 (omega arith) in
        let k : width_of e ≤ length rest = omega (arith, f.starts, f.ends, c.long) in
        let p : e.first - start ≡ from - start = ap (λ x. x - start) f.starts in
        let q : e.last + 1 - start - (from - start) ≡ width_of e = omega (arith, f.starts, f.ends) in
        let t : part (e.first - start) (e.last + 1 - start) tail ≡ take (width_of e) rest =
        ap (λ x. take (e.last + 1 - start - x) (drop x tail)) p ∙ ap (λ x. take (e.last + 1 - start - (from - start)) x) c.here ∙ ap (λ x. take x rest) q in
        let s = take-append-drop (width_of e) rest in
        let v = each_cut (IsValid false) (take (width_of e) rest) (drop (width_of e) rest) (subst (Each (IsValid false)) (sym s) c.valid) in
        let i : from - start + width_of e ≡ e.last + 1 - start = omega (arith, f.starts, f.ends) in
        let r = columns_there es (e.last + 1) (drop (width_of e) rest) w.2 (omega (arith, f.starts, f.ends)) (record {
          here = ap (λ x. drop x tail) (sym i) ∙ sym (drop-drop (width_of e) (from - start) tail) ∙ ap (drop (width_of e)) c.here;
          long = past_column e.first e.last from (length rest) _ _ f.starts f.ends (omega arith) k c.long (length-drop (width_of e) rest);
          valid = v.1;
          ruled = c.ruled.1;
        }) in
        let m = (meant.exactly e.code (take (width_of e) rest)).0 (ap (keeps_limit at e.code) (sym t) ∙ c.ruled.0) in
        subst (Columns AtLat AtLon (e ∷ es)) s (column (take (width_of e) rest) (length-take-le (width_of e) rest k) v.0 m.0 m.1 r)

    columns_here : (es : List Entry) (from : ℕ) (rest : List ℕ) → Tiles from es → start ≤ from → drop (from - start) tail ≡ rest → Columns AtLat AtLon es rest
        → Left es from rest
    columns_here [] from rest w h g none = record { here = g; long = omega arith; valid = tt; ruled = tt }
    columns_here (e ∷ es) from rest w h g (column {t = r} c n v u z x) =
        let f : IsEntry from e = w.0 in
        let p : e.first - start ≡ from - start = ap (λ x. x - start) f.starts in
        let q : e.last + 1 - start - (from - start) ≡ width_of e = omega (arith, f.starts, f.ends) in
        let t : part (e.first - start) (e.last + 1 - start) tail ≡ c =
        ap (λ x. take (e.last + 1 - start - x) (drop x tail)) p ∙ ap (λ x. take (e.last + 1 - start - (from - start)) x) g ∙ ap (λ x. take x (c ++ r)) q ∙ take_at c r (width_of e) n in
        let i : from - start + width_of e ≡ e.last + 1 - start = omega (arith, f.starts, f.ends) in
        let d : drop (e.last + 1 - start) tail ≡ r =
        ap (λ x. drop x tail) (sym i) ∙ sym (drop-drop (width_of e) (from - start) tail) ∙ ap (drop (width_of e)) g ∙ drop_at c r (width_of e) n in
        let k = columns_here es (e.last + 1) r w.2 (omega (arith, f.starts, f.ends)) d x in
        record {
          here = g;
          long = ap (λ x. from - 1 + x) (length-append c r) ∙ with_column e.first e.last from (length c) (length r) _ f.starts f.ends (omega arith) n k.long;
          valid = each_join (IsValid false) c r v k.valid;
          ruled = (ap (keeps_limit at e.code) t ∙ (meant.exactly e.code c).1 (u, z), k.ruled);
        }

-- ---- the theorem

pub tail_exactly : (at : AtLimit) (AtLat AtLon : Type 0) → Meant at AtLat AtLon → (start : ℕ) (tail : List ℕ) (layout : Layout) → 1 ≤ start → Sound start layout
    → (good_tail at start tail layout ≡ true) ↔ Columns AtLat AtLon (entries_of layout) tail
unfolding good_tail bad_tail
tail_exactly at AtLat AtLon meant start tail layout low s = (there, here)
  where
    ends : line_length start layout ≡ end_of (entries_of layout) start
    ends = ap (line_length start) (allowed_there start layout s.right s.full).1 ∙ line_end start (entries_of layout)

    same : start - start ≡ 0
    same = omega arith

    there : good_tail at start tail layout ≡ true → Columns AtLat AtLon (entries_of layout) tail
    there e =
        let a = need_inv (allowed start layout) false true _ false_true e in
        let n = need_inv (eqb (start - 1 + length tail) (line_length start layout)) false true _ false_true a.1 in
        let c = need_inv (is_clean tail) false true _ false_true n.1 in
        let w = told_tiles start layout s in
        columns_there at AtLat AtLon meant start tail low (entries_of layout) start tail w (omega arith) (record {
          here = ap (λ x. drop x tail) same;
          long = eqb-true _ _ n.0 ∙ ends;
          valid = are_valid_lem tail (sym (clean_valid tail) ∙ c.0);
          ruled = each_map (entries_of layout) (λ e h. not-false _ h) (nothing_found _ _ (entries_of layout) 0 (nothing_given _ c.1));
        })

    here : Columns AtLat AtLon (entries_of layout) tail → good_tail at start tail layout ≡ true
    here x =
        let w = told_tiles start layout s in
        let k = columns_here at AtLat AtLon meant start tail low (entries_of layout) start tail w (omega arith) (ap (λ x. drop x tail) same) x in
        let b : bad_tail at start tail layout ≡ _ = none_found _ _ (entries_of layout) 0 (each_map (entries_of layout) (λ e h. rw h refl) k.ruled) in
        rw (s.right, eq-eqb _ _ (k.long ∙ sym ends), clean_valid tail, valid_are tail k.valid, b)

-- ---- the number that a text spells

pub whole_there : (t : List ℕ) (z : Signed) → whole_of t ≡ Some z → Spells t z
unfolding whole_of on
whole_there t z e = go (eqb (get_or t 0 0) 45) refl e
  where
    go : (b : Bool) → eqb (get_or t 0 0) 45 ≡ b
        → cond b (need (leb 2 (length t)) None λ u. given (number_at t 1 (length t - 1)) None λ v. Some (record { value = neg_ℤ (pos v) }))
        (need (leb 1 (length t)) None λ u. given (number_at t 0 (length t)) None λ v. Some (record { value = pos v })) ≡ Some z
        → Spells t z
    go true q e =
        let n = need_inv (leb 2 (length t)) None (Some z) _ none_some e in
        let v = given_inv (number_at t 1 (length t - 1)) None (Some z) _ none_some n.1 in
        let h = leb-true 2 (length t) n.0 in
        let d = number_there t 1 (length t - 1) (length t) v.0 (omega arith) v.1 in
        let i : record { value = neg_ℤ (pos v.0) } ≡ z = cc in
        subst (Spells t) i (minus (length t - 1) v.0 (omega arith) d.2 d.1 (
        byte_there t 0 1 45 refl (omega arith) (eqb-true _ _ q)
        ∙ ap (λ x. 45 ∷ x) (d.0 ∙ ap (λ x. digits_of (length t - 1) v.0 ++ x) (drop-length t) ∙ append-nil (digits_of (length t - 1) v.0))))
    go false q e =
        let n = need_inv (leb 1 (length t)) None (Some z) _ none_some e in
        let v = given_inv (number_at t 0 (length t)) None (Some z) _ none_some n.1 in
        let d = number_there t 0 (length t) (length t) v.0 (omega arith) v.1 in
        let i : record { value = pos v.0 } ≡ z = cc in
        subst (Spells t) i (plain (length t) v.0 (leb-true 1 (length t) n.0) d.2 d.1 (
        d.0 ∙ ap (λ x. digits_of (length t) v.0 ++ x) (drop-length t) ∙ append-nil (digits_of (length t) v.0)))

plain_here : (n v : ℕ) → 1 ≤ n → n ≤ 18 → v < 10 ^ n → whole_of (digits_of n v) ≡ Some (record { value = pos v })
unfolding whole_of on
plain_here zero v a b c = absurd (omega arith)
plain_here (suc m) v a b c =
    let t : List ℕ = digits_of (suc m) v in
    let k : length t ≡ suc m = digits_length (suc m) v in
    let f : get_or t 0 0 ≡ 48 + v / 10 ^ m % 10 = ap (λ l. get_or l 0 0) (digits_front m v) in
    let d = number_here t 0 (suc m) v [] b c (sym (append-nil t)) in
    simp (ne_eqb (get_or t 0 0) 45 (λ z. omega arith), k, le-leb 1 (suc m) a, d)

minus_here : (n v : ℕ) → 1 ≤ n → n ≤ 18 → v < 10 ^ n → whole_of (code "-" ∷ digits_of n v) ≡ Some (record { value = neg_ℤ (pos v) })
unfolding whole_of on
minus_here n v a b c =
    let t : List ℕ = code "-" ∷ digits_of n v in
    let k : length t ≡ n + 1 = ap suc (digits_length n v) ∙ omega arith in
    let i : n + 1 - 1 ≡ n = omega arith in
    let d = number_here t 1 n v [] b c (sym (append-nil (digits_of n v))) in
    rw (k, le-leb 2 (n + 1) (omega arith), i, d)

pub whole_here : (t : List ℕ) {z : Signed} → Spells t z → whole_of t ≡ Some z
whole_here t (plain n v a b c e) = ap whole_of e ∙ plain_here n v a b c
whole_here t (minus n v a b c e) = ap whole_of e ∙ minus_here n v a b c

number_of : (t : List ℕ) (o : Option Signed) → whole_of t ≡ o → NumberOf t (given o (refuses 20 0 0) λ z. says z)
unfolding number
number_of t (Some z) e = whole_there t z e
number_of t None e = (refl, λ z s. none_some (sym e ∙ whole_here t s))

-- ---- the columns stand one behind the other, each as wide as its entry says, up to the line's end

pub texts_are : {AtLat AtLon : Type 0} (l : List ℕ) (es : List Entry) (from : ℕ) (rest : List ℕ) → Tiles from es → 1 ≤ from → drop (from - 1) l ≡ rest → Columns AtLat AtLon es rest
    → (column_texts l es ≡ rest) × Each (λ e. length (column_text l (span_of e)) ≡ width_of e) es
unfolding column_texts
texts_are l [] from rest w h g none = (refl, tt)
texts_are l (e ∷ es) from rest w h g (column {t = t} c n v u z x) =
    let f : IsEntry from e = w.0 in
    let a : e.first - 1 ≡ from - 1 = ap (λ i. i - 1) f.starts in
    let b : e.last - (e.first - 1) ≡ width_of e = omega (arith, f.starts, f.ends) in
    let i : from - 1 + width_of e ≡ e.last + 1 - 1 = omega (arith, f.starts, f.ends) in
    let here : column_text l (span_of e) ≡ c = ap (λ k. take (e.last - (e.first - 1)) (drop k l)) a ∙ ap (λ r. take (e.last - (e.first - 1)) r) g ∙ ap (λ k. take k (c ++ t)) b ∙ take_at c t (width_of e) n in
    let d : drop (e.last + 1 - 1) l ≡ t = ap (λ k. drop k l) (sym i) ∙ sym (drop-drop (width_of e) (from - 1) l) ∙ ap (drop (width_of e)) g ∙ drop_at c t (width_of e) n in
    let r = texts_are l es (e.last + 1) t w.2 (omega arith) d x in
    (ap (λ y. y ++ column_texts l es) here ∙ ap (λ y. c ++ y) r.0, (ap length here ∙ n, r.1))

-- ---- all columns of a line

pub name_back : (name : List ℕ) → IsName name → code_text (packed_of name) ≡ name
name_back [] w = absurd (omega (arith, w.three))
name_back (a ∷ []) w = absurd (omega (arith, w.three))
name_back (a ∷ b ∷ []) w = absurd (omega (arith, w.three))
name_back (a ∷ b ∷ c ∷ []) w = unpacked a b c w.bytes.1.0 w.bytes.1.1.0
name_back (a ∷ b ∷ c ∷ d ∷ l) w = absurd (omega (arith, w.three))

-- a name that no entry has
pub none_looked : (layout : Layout) (name : List ℕ) → IsName name → Each (λ e. code_text e.code ≡ name → ⊥) (entries_of layout) → look layout (packed_of name) ≡ None
unfolding look
none_looked layout name w h =
    none_found (Coded (packed_of name)) (λ k e. span_of e) (entries_of layout) 0
    (each_map (entries_of layout) (λ e n. ne_eqb e.code (packed_of name) (λ i. n (ap code_text i ∙ name_back name w))) h)

module _ (layout : Layout) (l : List ℕ) (fits : fits_line l layout ≡ true) where
  column_said : (name : List ℕ) (s : Span) → look layout (packed_of name) ≡ Some s → look_said l layout name ≡ says s
  column_said name s e = look_there l layout name fits ∙ rw e

  column_absent : (name : List ℕ) → look layout (packed_of name) ≡ None → look_said l layout name ≡ refuses 19 0 0
  unfolding number
  column_absent name e = look_there l layout name fits ∙ rw e

  column_read : (e : Entry) → look layout e.code ≡ Some (span_of e) → length (column_text l (span_of e)) ≡ width_of e → ReadsColumn layout l e
  unfolding look_number look_text number
  column_read e h n =
      let s = column_said (code_text e.code) (span_of e) (ap (look layout) (packed_back e.code) ∙ h) in
      record { span = s; text = rw s; wide = n; number = rw s (number_of (column_text l (span_of e)) (whole_of (column_text l (span_of e))) refl) }

pub columns_read : {AtLat AtLon : Type 0} (f : Family) (layout : Layout) (l tail : List ℕ) → 1 ≤ first_start f → Sound (first_start f) layout
    → drop (first_start f - 1) l ≡ tail → Columns AtLat AtLon (entries_of layout) tail → fits_line l layout ≡ true → ReadsColumns f layout l
unfolding number
columns_read f layout l tail low s cut is fits =
    let t = told_tiles (first_start f) layout s in
    let es = entries_of layout in
    let r = texts_are l es (first_start f) tail t low cut is in
    record {
      carried = each_map es (λ e h. column_read layout l fits e h.0 h.1)
          (each_both es (λ e. look layout e.code ≡ Some (span_of e)) (λ e. length (column_text l (span_of e)) ≡ width_of e) (each_looked (first_start f) layout s) r.1);
      absent = λ name w h. column_absent layout l fits name (none_looked layout name w h);
      tail = r.0 ∙ sym cut;
    }
