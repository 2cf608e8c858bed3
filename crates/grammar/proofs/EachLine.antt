-- A line of each kind both ways: it passes its checks exactly when it is what the grammar calls a line of that kind, with the values that it says; B, K, N and C lines from the
-- laws of each line both ways. Assumes nothing.
use Rattle.std.specs.Prelude.{None, Some}
use Prim.Native.Nat.{ℕ, ◌+◌, ◌-◌, ◌%◌, ◌≤◌, ◌<◌}
use Prim.Native.Char.{code}
use mathlib.Core.Bool.{Bool, true, false, ◌&&◌, cond}
use mathlib.Core.List.{List, [], ◌∷◌, ◌++◌, append-nil}
use mathlib.Core.Path.{◌≡◌, refl, sym, ◌∙◌, ap, subst}
use mathlib.Core.Logic.{◌↔◌}
use native.Mathlib.Omega.{arith}
use borrow.Author.Tests.{eqb-true, eq-eqb, le-leb, leb-true}
use lib.Dec.{eqb}
use lib.ListN.{length, get_or, drop, length-drop, take, take-append-drop}
use lib.Seq.{drop-length}
use Rattle.rules.specs.Choice.{on, Each, need}
use Rattle.rules.specs.Refusals.{says}
use Rattle.rules.specs.Chars.{is_valid, is_code, codes_at}
use Rattle.rules.specs.Fields.{time_at, time_text, date_at, date_text, is_either}
use Rattle.rules.specs.Lines.{shaped, a_line, is_date_mark, date_line, h_line, d_line, e_line, bad_pair, f_line, at_limit, l_line, g_line, other_line, head_line, point_line, FieldsIn, time_in, columned_line}
use Rattle.rules.specs.declared.Date.{Date}
use Rattle.rules.specs.Degrees.{is_latitude, is_longitude}
use Rattle.rules.specs.Limits.{is_time, is_date, is_clean, good_tail, good_fix_fields, good_extra, good_head_fields, good_head, good_point}
use Rattle.rules.specs.Families.{first_start, line_letter}
use Rattle.rules.specs.Listed.{off_limit}
use Rattle.rules.specs.Layouts.{entries_of, span_of, column_text}
use Rattle.rules.specs.Reads.{ValueOf, fields_said, said_of, Reading, reading, fix_said, extra_said, head_said, point_said}
use Rattle.rules.specs.Fixes.{finer_of, fix_of, fields_of}
use Rattle.rules.specs.Writes.{fields_text, extra_text}
use Rattle.rules.specs.declared.Layout.{Layout}
use Rattle.rules.specs.declared.Extra.{Extra}
use Rattle.rules.specs.declared.Family.{Family}
use Rattle.rules.specs.declared.Family.TheVariants as family
use Rattle.rules.specs.declared.FixFields.{FixFields}
use Rattle.rules.specs.declared.Fix.{Fix}
use Rattle.rules.specs.declared.Head.{Head}
use Rattle.rules.specs.declared.Point.{Point}
use Rattle.rules.proofs.Inverse.{none_some, refuses_says, given_inv, need_inv, then_inv, and_inv, false_true, given_none}
use Rattle.rules_trips.proofs.Laws.{past, byte_there}
use Rattle.rules_trips.proofs.Times.{time_trip}
use Rattle.rules_trips.proofs.Dates.{date_trip}
use Rattle.rules_trips.proofs.Texts.{clean_valid}
use Rattle.rules_trips.proofs.LineTrip.{line_limits, said_from}
use Rattle.rules_trips.proofs.Columned.{line_timed, timed_line, value_said, said_by, by_said, limit_in, fields_trip}
use Rattle.rules_trips.proofs.Fixes.{fix_front}
use Rattle.rules_trips.proofs.Refined.{fields_of_fix}
use Rattle.rules_trips.proofs.AtLimits.{limits_exactly}
use Rattle.rules_trips.proofs.Extras.{extra_trip}
use Rattle.rules_trips.proofs.Heads.{head_trip, head_within}
use Rattle.rules_trips.proofs.Heads as heads
use Rattle.rules_trips.proofs.Points.{point_trip}
use Rattle.rules_trips.proofs.Points as points
use Rattle.grammar_words.specs.Characters.{IsValid, IsCode}
use Rattle.grammar_words.proofs.Characters.{valid_exactly, code_exactly, codes_exactly}
use Rattle.grammar_words.specs.Finer.{AtLatitude, AtLongitude}
use Rattle.grammar_words.proofs.Finer.{limit_exactly, at_limit_exactly, off_limit_exactly}
use Rattle.grammar_words.proofs.Values.{either_exactly, time_exactly, latitude_exactly, longitude_exactly, fix_exactly}
use Rattle.grammar.specs.Grammar.{Shaped, IsALine, IsDateLine, IsHLine, IsDLine, IsELine, IsFLine, IsLLine, IsGLine, IsOtherLine, width_of, Columns, IsBLine, IsExtraLine, IsColumned, IsHeadLine, IsPointLine}
use Rattle.rules_trips.proofs.Each.{each_map, each_cut}
use Rattle.grammar.proofs.Laws.{day_exactly, planned_exactly, are_valid_lem, shape_there, shape_said, valid_are}
use Rattle.rules_sound.proofs.Columns.{ruled_there}
use Rattle.rules_sound.proofs.Looked.{start_low}
use Rattle.grammar.proofs.LayoutLines.{IsTold, told_tiles}
use Rattle.grammar.proofs.Columns.{Meant, tail_exactly, texts_are}
use Rattle.grammar.proofs.Finer.{refines_there, refines_here}

-- ---- A

pub a_there : (l : List ℕ) (u : Unit {0}) → get_or l 0 0 ≡ code "A" → a_line l ≡ says u → IsALine l
unfolding a_line
a_there l u k e =
    let s = then_inv (shaped 7 255 false l) u _ e in
    let m = need_inv (codes_at l 1 3) _ (says u) _ refuses_says s.2 in
    let n = need_inv (codes_at l 4 3) _ (says u) _ refuses_says m.1 in
    record { letter = k; shape = shape_there 7 255 false l tt s.1; maker = (codes_exactly l 1 3).0 m.0; serial = (codes_exactly l 4 3).0 n.0 }

pub a_said : (l : List ℕ) → IsALine l → a_line l ≡ says tt
unfolding a_line
a_said l w = simp (shape_said 7 255 false l w.shape, (codes_exactly l 1 3).1 w.maker, (codes_exactly l 4 3).1 w.serial)

-- ---- line 2

-- what is valid outside H lines is valid in them
in_h : (b : ℕ) → IsValid false b → IsValid true b
in_h b w = record { from = w.from; to = w.to; without = w.without; comma = λ e. refl }

pub mark_there : (l : List ℕ) → is_date_mark l ≡ true → drop 1 l ≡ code "F" ∷ code "D" ∷ code "T" ∷ code "E" ∷ drop 5 l
unfolding is_date_mark
mark_there l e =
    let p₃ = and_inv (eqb (get_or l 1 0) 70 && eqb (get_or l 2 0) 68 && eqb (get_or l 3 0) 84) _ e in
    let p₂ = and_inv (eqb (get_or l 1 0) 70 && eqb (get_or l 2 0) 68) _ p₃.0 in
    let p₁ = and_inv (eqb (get_or l 1 0) 70) _ p₂.0 in
    byte_there l 1 2 70 refl (omega arith) (eqb-true _ _ p₁.0)
    ∙ ap (λ x. 70 ∷ x) (byte_there l 2 3 68 refl (omega arith) (eqb-true _ _ p₁.1)
    ∙ ap (λ x. 68 ∷ x) (byte_there l 3 4 84 refl (omega arith) (eqb-true _ _ p₂.1)
    ∙ ap (λ x. 84 ∷ x) (byte_there l 4 5 69 refl (omega arith) (eqb-true _ _ p₃.1))))

pub date_there : (l : List ℕ) (d : Date) → get_or l 0 0 ≡ code "H" → date_line l ≡ says d → IsDateLine d l
unfolding date_line
date_there l d k e =
    let s = then_inv (shaped 11 11 true l) d _ e in
    let m = need_inv (is_date_mark l) _ (says d) _ refuses_says s.2 in
    let a = given_inv (date_at l 5) _ (says d) _ refuses_says m.1 in
    let h = shape_there 11 11 true l tt s.1 in
    let n : length l ≡ 11 = omega arith in
    let i : a.0 ≡ d = cc in
    let r : drop 5 l ≡ date_text d = date_trip.there l 5 11 d refl (a.1 ∙ ap Some i) ∙ ap (λ x. date_text d ++ drop x l) (sym n) ∙ ap (λ x. date_text d ++ x) (drop-length l) ∙ append-nil (date_text d) in
    record {
      text = byte_there l 0 1 72 refl (omega arith) k ∙ ap (λ x. 72 ∷ x) (mark_there l m.0 ∙ ap (λ x. 70 ∷ 68 ∷ 84 ∷ 69 ∷ x) r);
      day = (day_exactly d).0 (date_trip.limits l 5 d (a.1 ∙ ap Some i));
    }

date_text_lem : Date → List ℕ
date_text_lem d = code "H" ∷ code "F" ∷ code "D" ∷ code "T" ∷ code "E" ∷ date_text d

date_shape : (d : Date) → is_date d ≡ true → Shaped 11 11 true (date_text_lem d)
unfolding date_text_lem is_valid
date_shape d g =
    let n = date_trip.long d in
    let v : (b : ℕ) → is_valid true b ≡ true → IsValid true b = λ b. (valid_exactly true b).0 in
    record {
      long = omega arith;
      short = omega arith;
      valid = (v 72 refl, (v 70 refl, (v 68 refl, (v 84 refl, (v 69 refl, each_map (date_text d) in_h (are_valid_lem (date_text d) (date_trip.clean d g)))))));
    }

pub date_said_lem : (l : List ℕ) (d : Date) → IsDateLine d l → date_line l ≡ says d
unfolding date_line is_date_mark date_text_lem
date_said_lem l d w =
    let g = (day_exactly d).1 w.day in
    let s = shape_said 11 11 true (date_text_lem d) (date_shape d g) in
    let a = date_trip.here (date_text_lem d) 5 d [] g (sym (append-nil (date_text d))) in
    rw w.text (simp (s, a))

-- ---- H

pub h_there : (l : List ℕ) (u : Unit {0}) → get_or l 0 0 ≡ code "H" → h_line l ≡ says u → IsHLine l
unfolding h_line on
h_there l u k e =
    let s = then_inv (shaped 5 255 true l) u _ e in
    let m = need_inv (is_either (get_or l 1 0) (code "F") (code "O")) _ (says u) _ refuses_says s.2 in
    let n = need_inv (codes_at l 2 3) _ (says u) _ refuses_says m.1 in
    record { letter = k; shape = shape_there 5 255 true l tt s.1; source = (either_exactly _ _ _).0 m.0; subject = (codes_exactly l 2 3).0 n.0 }

pub h_said : (l : List ℕ) → IsHLine l → h_line l ≡ says tt
unfolding h_line on
h_said l w = simp (shape_said 5 255 true l w.shape, (either_exactly _ _ _).1 w.source, (codes_exactly l 2 3).1 w.subject)

-- ---- D

pub d_there : (l : List ℕ) (u : Unit {0}) → get_or l 0 0 ≡ code "D" → d_line l ≡ says u → IsDLine l
unfolding d_line on
d_there l u k e =
    let s = then_inv (shaped 6 6 false l) u _ e in
    let m = need_inv (is_either (get_or l 1 0) (code "1") (code "2")) _ (says u) _ refuses_says s.2 in
    let n = need_inv (codes_at l 2 4) _ (says u) _ refuses_says m.1 in
    record { letter = k; shape = shape_there 6 6 false l tt s.1; qualifier = (either_exactly _ _ _).0 m.0; station = (codes_exactly l 2 4).0 n.0 }

pub d_said : (l : List ℕ) → IsDLine l → d_line l ≡ says tt
unfolding d_line on
d_said l w = simp (shape_said 6 6 false l w.shape, (either_exactly _ _ _).1 w.qualifier, (codes_exactly l 2 4).1 w.station)

-- ---- E

-- a line that begins with a letter and a time
time_text_lem : (l : List ℕ) (x t : ℕ) → 0 < x → get_or l 0 0 ≡ x → time_at l 1 ≡ Some t → l ≡ x ∷ (time_text t ++ drop 7 l)
time_text_lem l x t p k e = byte_there l 0 1 x refl p k ∙ ap (λ y. x ∷ y) (time_trip.there l 1 7 t refl e)

text_time : (l : List ℕ) (x t : ℕ) (rest : List ℕ) → is_time t ≡ true → l ≡ x ∷ (time_text t ++ rest) → time_at l 1 ≡ Some t
text_time l x t rest g e = time_trip.here l 1 t rest g (ap (drop 1) e)

e_inv : (l : List ℕ) (t : ℕ) → e_line l ≡ says t → Shaped 10 255 false l × (time_at l 1 ≡ Some t) × (codes_at l 7 3 ≡ true)
unfolding e_line
e_inv l t e =
    let s = then_inv (shaped 10 255 false l) t _ e in
    let a = given_inv (time_at l 1) _ (says t) _ refuses_says s.2 in
    let n = need_inv (codes_at l 7 3) _ (says t) _ refuses_says a.2 in
    let i : a.0 ≡ t = cc in
    (shape_there 10 255 false l tt s.1, a.1 ∙ ap Some i, n.0)

pub e_there : (l : List ℕ) (t : ℕ) → get_or l 0 0 ≡ code "E" → e_line l ≡ says t → IsELine t l
e_there l t k e =
    let h = e_inv l t e in
    record { rest = drop 7 l; text = time_text_lem l 69 t (omega arith) k h.1; time = (time_exactly t).0 (time_trip.limits l 1 t h.1); shape = h.0; event = (codes_exactly l 7 3).0 h.2 }

pub e_said : (l : List ℕ) (t : ℕ) → IsELine t l → (get_or l 0 0 ≡ code "E") × (e_line l ≡ says t)
unfolding e_line
e_said l t w =
    let h = text_time l 69 t w.rest ((time_exactly t).1 w.time) w.text in
    (ap (λ x. get_or x 0 0) w.text, simp (shape_said 10 255 false l w.shape, h, (codes_exactly l 7 3).1 w.event))

-- ---- F

-- pairs of code characters, none odd, are code characters
pairs_there : (l : List ℕ) (at : ℕ) → length l % 2 ≡ 0 → bad_pair at l ≡ None → Each IsCode l
unfolding bad_pair
pairs_there [] at n e = tt
pairs_there (a ∷ []) at n e = absurd (omega arith)
pairs_there (a ∷ b ∷ l) at n e = go (is_code a) (is_code b) refl refl e (pairs_there l (at + 2) (omega arith))
  where
    go : (x y : Bool) → is_code a ≡ x → is_code b ≡ y → cond (x && y) (bad_pair (at + 2) l) (Some at) ≡ None
        → (bad_pair (at + 2) l ≡ None → Each IsCode l) → Each IsCode (a ∷ b ∷ l)
    go true true p q e f = ((code_exactly a).0 p, ((code_exactly b).0 q, f e))
    go true false p q e f = absurd (none_some (sym e))
    go false y p q e f = absurd (none_some (sym e))

pairs_here : (l : List ℕ) (at : ℕ) → Each IsCode l → bad_pair at l ≡ None
unfolding bad_pair
pairs_here [] at h = refl
pairs_here (a ∷ []) at h = refl
pairs_here (a ∷ b ∷ l) at h = rw ((code_exactly a).1 h.0, (code_exactly b).1 h.1.0) (pairs_here l (at + 2) h.1.1)

f_inv : (l : List ℕ) (t : ℕ) → f_line l ≡ says t → Shaped 7 255 false l × (time_at l 1 ≡ Some t) × ((length l - 7) % 2 ≡ 0) × (bad_pair 7 (drop 7 l) ≡ None)
unfolding f_line
f_inv l t e =
    let s = then_inv (shaped 7 255 false l) t _ e in
    let a = given_inv (time_at l 1) _ (says t) _ refuses_says s.2 in
    let n = need_inv (eqb ((length l - 7) % 2) 0) _ (says t) _ refuses_says a.2 in
    let p = given_none (bad_pair 7 (drop 7 l)) (says a.0) (says t) _ (λ v. refuses_says) n.1 in
    let i : a.0 ≡ t = cc in
    (shape_there 7 255 false l tt s.1, a.1 ∙ ap Some i, eqb-true _ _ n.0, p.0)

pub f_there : (l : List ℕ) (t : ℕ) → get_or l 0 0 ≡ code "F" → f_line l ≡ says t → IsFLine t l
f_there l t k e =
    let h = f_inv l t e in
    let even : length (drop 7 l) % 2 ≡ 0 = ap (λ x. x % 2) (length-drop 7 l) ∙ h.2 in
    record {
      pairs = drop 7 l;
      text = time_text_lem l 70 t (omega arith) k h.1;
      time = (time_exactly t).0 (time_trip.limits l 1 t h.1);
      shape = h.0;
      even = even;
      codes = pairs_there (drop 7 l) 7 even h.3;
    }

pub f_said : (l : List ℕ) (t : ℕ) → IsFLine t l → (get_or l 0 0 ≡ code "F") × (f_line l ≡ says t)
unfolding f_line
f_said l t w =
    let h = text_time l 70 t w.pairs ((time_exactly t).1 w.time) w.text in
    let d : drop 7 l ≡ w.pairs = past l 1 6 7 (time_text t) w.pairs (time_trip.long t) refl (ap (drop 1) w.text) in
    let n : (length l - 7) % 2 ≡ 0 = ap (λ x. x % 2) (sym (length-drop 7 l) ∙ ap length d) ∙ w.even in
    let p : bad_pair 7 (drop 7 l) ≡ None = ap (bad_pair 7) d ∙ pairs_here w.pairs 7 w.codes in
    (ap (λ x. get_or x 0 0) w.text, simp (shape_said 7 255 false l w.shape, h, eq-eqb _ _ n, p))

-- ---- L, G and other

pub l_there : (l : List ℕ) (u : Unit {0}) → get_or l 0 0 ≡ code "L" → l_line l ≡ says u → IsLLine l
l_there l u k e = record { letter = k; shape = shape_there 1 99 false l u e }

pub l_said : (l : List ℕ) → IsLLine l → l_line l ≡ says tt
l_said l w = shape_said 1 99 false l w.shape

pub g_there : (l : List ℕ) (u : Unit {0}) → get_or l 0 0 ≡ code "G" → g_line l ≡ says u → IsGLine l
g_there l u k e = record { letter = k; shape = shape_there 2 255 false l u e }

pub g_said : (l : List ℕ) → IsGLine l → g_line l ≡ says tt
g_said l w = shape_said 2 255 false l w.shape

pub other_there : (l : List ℕ) (u : Unit {0}) → code "O" ≤ get_or l 0 0 → get_or l 0 0 ≤ code "Z" → other_line l ≡ says u → IsOtherLine l
other_there l u p q e = record { from = p; to = q; shape = shape_there 1 255 false l u e }

pub other_said : (l : List ℕ) → IsOtherLine l → other_line l ≡ says tt
other_said l w = shape_said 1 255 false l w.shape

-- ---- B, K, N and C lines: the limits, by a layout that a line can tell

-- what its columns mean, by the fields of a line of the family: whether its latitude and its longitude are at their limits
abbrev AtLat : (f : Family) → FieldsIn f → Type 0
AtLat family.B v = AtLatitude v
AtLat (family.Extra x) t = ⊥

abbrev AtLon : (f : Family) → FieldsIn f → Type 0
AtLon family.B v = AtLongitude v
AtLon (family.Extra x) t = ⊥

columns_meant : (f : Family) (v : FieldsIn f) → Meant (limit_in f v) (AtLat f v) (AtLon f v)
columns_meant family.B v = record { exactly = limit_exactly (at_limit v) (AtLatitude v) (AtLongitude v) (at_limit_exactly v).0 (at_limit_exactly v).1 }
columns_meant (family.Extra x) t = record { exactly = limit_exactly off_limit ⊥ ⊥ off_limit_exactly.0 off_limit_exactly.1 }

-- fields that are good, and columns
limits : (f : Family) (layout : Layout) → IsTold f layout → (v : FieldsIn f) (fields : Bool) (tail : List ℕ)
    → ((need fields false λ u. good_tail (limit_in f v) (first_start f) tail layout) ≡ true) ↔ ((fields ≡ true) × Columns (AtLat f v) (AtLon f v) (entries_of layout) tail)
limits f layout t v fields tail =
    let x = tail_exactly (limit_in f v) (AtLat f v) (AtLon f v) (columns_meant f v) (first_start f) tail layout (start_low f) t in (
      λ e. let w = need_inv fields false true _ false_true e in (w.0, x.0 w.1),
      λ h. rw h.0 (x.1 h.1),
    )

-- ---- a line as its reader reads it

-- a B line has the fields that its text spells
pub b_fields : (layout : Layout) → IsTold family.B layout → (f : Fix) (l : List ℕ) (w : IsBLine layout f l) → fields_said family.B l layout ≡ says w.plain
b_fields layout t f l w =
    ap (λ x. fields_said family.B x layout) w.text ∙ (fields_trip fix_front layout).here w.plain w.tail ((limits family.B layout t w.plain (good_fix_fields w.plain) w.tail).1 ((fix_exactly w.plain).1 w.fields, w.columns))

-- its columns are as wide as its entries say
b_wide : (layout : Layout) → IsTold family.B layout → (v : FixFields) (l tail : List ℕ) → l ≡ fields_text v tail → Columns (AtLatitude v) (AtLongitude v) (entries_of layout) tail
    → Each (λ e. length (column_text l (span_of e)) ≡ width_of e) (entries_of layout)
b_wide layout t v l tail e c =
    (texts_are l (entries_of layout) 36 tail (told_tiles 36 layout t) (omega arith) (ap (drop 35) e ∙ (fields_trip fix_front layout).behind v tail) c).1

-- the fix that the fields and the columns of a line make
b_line_lem : (layout : Layout) → IsTold family.B layout → (v : FixFields) (l : List ℕ) → fields_said family.B l layout ≡ says v → (w : IsBLine layout (fix_of l (finer_of layout) v) l) × (w.plain ≡ v)
b_line_lem layout t v l e =
    let g = (limits family.B layout t v (good_fix_fields v) (drop 35 l)).0 (line_limits (fields_trip fix_front layout) l v e) in
    let text = (fields_trip fix_front layout).there l v e in
    let p = (fix_front.passes layout l v).0 (by_said family.B l layout v e).2 in
    let k = each_map (entries_of layout) (λ e h. ((limits_exactly (at_limit v) e.code _).0 h).rule) (ruled_there (at_limit v) l layout p.ruled) in (
      record {
        plain = v;
        tail = drop 35 l;
        text = text;
        fields = (fix_exactly v).0 g.0;
        columns = g.1;
        refines = refines_there layout t l (b_wide layout t v l (drop 35 l) text g.1) v k;
      },
      refl,
    )

pub b_fix : (layout : Layout) → IsTold family.B layout → (f : Fix) (l : List ℕ) (w : IsBLine layout f l) → fix_of l (finer_of layout) w.plain ≡ f
b_fix layout t f l w = refines_here layout t l (b_wide layout t w.plain l w.tail w.text w.columns) w.plain f w.refines

pub fix_reads : (layout : Layout) → IsTold family.B layout → (f : Fix) (l : List ℕ) → IsBLine layout f l → fix_said l layout ≡ says f
unfolding fix_said
fix_reads layout t f l w = value_said family.B l layout w.plain (b_fields layout t f l w) ∙ ap says (b_fix layout t f l w)

pub fix_read : (layout : Layout) → IsTold family.B layout → (f : Fix) (l : List ℕ) → fix_said l layout ≡ says f → IsBLine layout f l
unfolding fix_said
fix_read layout t f l e =
    let s = said_from (λ l. fix_of l (finer_of layout)) fields_of (λ l. fields_of_fix l (finer_of layout)) l (fields_said family.B l layout) f e in
    subst (λ g. IsBLine layout g l) s.1 (b_line_lem layout t (fields_of f) l s.0).0

pub extra_reads : (x : Extra) (layout : Layout) → IsTold (family.Extra x) layout → (t : ℕ) (l : List ℕ) → IsExtraLine x layout t l → extra_said x l layout ≡ says t
unfolding good_extra
extra_reads x layout i t l w =
    ap (λ y. extra_said x y layout) w.text
    ∙ (extra_trip x layout).here t w.tail ((limits (family.Extra x) layout i t (is_time t) w.tail).1 ((time_exactly t).1 w.time, w.columns))

pub extra_read : (x : Extra) (layout : Layout) → IsTold (family.Extra x) layout → (t : ℕ) (l : List ℕ) → extra_said x l layout ≡ says t → IsExtraLine x layout t l
unfolding good_extra
extra_read x layout i t l e =
    let g = (limits (family.Extra x) layout i t (is_time t) (drop 7 l)).0 (line_limits (extra_trip x layout) l t e) in
    record { tail = drop 7 l; text = (extra_trip x layout).there l t e; time = (time_exactly t).0 g.0; columns = g.1 }

-- the whole reading: the value, and the entries of the layout
pub reading_here : (f : Family) (l : List ℕ) (layout : Layout) (v : ValueOf f) → said_of f l layout ≡ says v → reading f l layout ≡ says (record { value = v; entries = layout })
unfolding reading
reading_here f l layout v e = rw e

pub reading_there : (f : Family) (l : List ℕ) (layout : Layout) (r : Reading (ValueOf f)) → reading f l layout ≡ says r → (said_of f l layout ≡ says r.value) × (r.entries ≡ layout)
unfolding reading
reading_there f l layout r e =
    let t = then_inv (said_of f l layout) r _ e in
    let q : record { value = t.0; entries = layout } ≡ r = one t.2 in
    (t.1 ∙ ap (λ (x : Reading (ValueOf f)). says x.value) q, sym (ap (λ (x : Reading (ValueOf f)). x.entries) q))
  where
    one : {A : Type 0} {v w : A} → says v ≡ says w → v ≡ w
    one e = cc

-- the fix alone, of a B line that was read whole
pub fix_alone : (l : List ℕ) (layout : Layout) (r : Reading Fix) → reading family.B l layout ≡ says r → fix_said l layout ≡ says r.value
unfolding fix_said
fix_alone l layout r e = (reading_there family.B l layout r e).0

-- what stands behind the fields of a line that is shaped is not too long, and clean
behind_shape : (l : List ℕ) (fields most : ℕ) (rest : List ℕ) → drop fields l ≡ rest → Shaped fields most false l → (fields + length rest ≤ most) × (is_clean rest ≡ true)
behind_shape l fields most rest d w =
    let k : length rest ≡ length l - fields = ap length (sym d) ∙ length-drop fields l in
    let v = (each_cut (IsValid false) (take fields l) (drop fields l) (subst (Each (IsValid false)) (sym (take-append-drop fields l)) w.valid)).1 in
    (omega (arith, w.long, w.short), ap is_clean (sym d) ∙ clean_valid (drop fields l) ∙ valid_are (drop fields l) v)

pub head_reads : (h : Head) (l : List ℕ) → IsHeadLine h l → head_said l ≡ says h
unfolding good_head
head_reads h l w =
    let r = behind_shape l 25 255 w.rest (ap (drop 25) w.text ∙ head_trip.behind h w.rest) w.shape in
    let g : good_head_fields h ≡ true = (head_within h).1 (record {
      declared = (day_exactly h.declared).1 w.declared;
      time = (time_exactly _).1 w.time;
      flight = (planned_exactly h.flight).1 w.flight;
      task = le-leb _ _ w.task;
      turns = le-leb _ _ w.turns;
    }) in
    ap head_said w.text ∙ head_trip.here h w.rest (rw (g, le-leb _ _ r.0) r.1)

pub head_read : (h : Head) (l : List ℕ) → head_said l ≡ says h → IsHeadLine h l
unfolding good_head
head_read h l e =
    let g = need_inv (good_head_fields h) false true _ false_true (line_limits head_trip l h e) in
    let w = (head_within h).0 g.0 in
    record {
      rest = drop 25 l;
      text = head_trip.there l h e;
      declared = (day_exactly h.declared).0 w.declared;
      time = (time_exactly _).0 w.time;
      flight = (planned_exactly h.flight).0 w.flight;
      task = leb-true _ _ w.task;
      turns = leb-true _ _ w.turns;
      shape = shape_there 25 255 false l tt (heads.head_there l h e).shape;
    }

pub point_reads : (l : List ℕ) (w : IsPointLine l) → point_said l ≡ says w.point
unfolding good_point
point_reads l w =
    let r = behind_shape l 18 255 w.rest (ap (drop 18) w.text ∙ point_trip.behind w.point w.rest) w.shape in
    let a = (latitude_exactly w.point.lat).1 w.lat in
    let o = (longitude_exactly w.point.lon).1 w.lon in
    ap point_said w.text ∙ point_trip.here w.point w.rest (rw (a, o, le-leb _ _ r.0) r.1)

pub point_read : (p : Point) (l : List ℕ) → point_said l ≡ says p → (w : IsPointLine l) × (w.point ≡ p)
unfolding good_point
point_read p l e =
    let a = need_inv (is_latitude p.lat) false true _ false_true (line_limits point_trip l p e) in
    let o = need_inv (is_longitude p.lon) false true _ false_true a.1 in (
      record {
        point = p;
        rest = drop 18 l;
        text = point_trip.there l p e;
        lat = (latitude_exactly p.lat).0 a.0;
        lon = (longitude_exactly p.lon).0 o.0;
        shape = shape_there 18 255 false l tt (points.point_there l p e).shape;
      },
      refl,
    )

-- ---- a line as the check reads it

pub columned_letter : (f : Family) (layout : Layout) (t : ℕ) (l : List ℕ) → IsColumned f layout t l → get_or l 0 0 ≡ line_letter f
unfolding fields_text extra_text
columned_letter family.B layout t l w = ap (λ x. get_or x 0 0) w.1.text
columned_letter (family.Extra x) layout t l w = ap (λ x. get_or x 0 0) w.text

pub columned_there : (f : Family) (layout : Layout) (t : ℕ) (l : List ℕ) → IsTold f layout → get_or l 0 0 ≡ line_letter f → columned_line f layout l ≡ says t → IsColumned f layout t l
unfolding fix_said extra_said columned_line
columned_there family.B layout t l i k e =
    let r = timed_line family.B layout l t e in
    let said = said_by family.B l layout r.0 k i.right r.1 in
    let w = b_line_lem layout i r.0 l said in
    (fix_of l (finer_of layout) r.0, w.0, ap (λ (x : FixFields). x.time) w.1 ∙ r.2)
columned_there (family.Extra x) layout t l i k e = extra_read x layout i t l (said_by (family.Extra x) l layout t k i.right e)

-- what it spells before its columns
pub columned_fields : (f : Family) (layout : Layout) (t : ℕ) (l : List ℕ) → IsTold f layout → IsColumned f layout t l → (v : FieldsIn f) × (fields_said f l layout ≡ says v) × (time_in f v ≡ t)
unfolding extra_said
columned_fields family.B layout t l i w = (w.1.plain, b_fields layout i w.0 l w.1, w.2)
columned_fields (family.Extra x) layout t l i w = (t, extra_reads x layout i t l w, refl)

pub columned_said : (f : Family) (layout : Layout) (t : ℕ) (l : List ℕ) → IsTold f layout → IsColumned f layout t l → columned_line f layout l ≡ says t
columned_said f layout t l i w =
    let r = columned_fields f layout t l i w in
    line_timed f layout l r.0 (by_said f l layout r.0 r.1).2 ∙ ap says r.2

pub head_there : (h : Head) (l : List ℕ) → get_or l 0 0 ≡ code "C" → head_line l ≡ says h → IsHeadLine h l
unfolding head_said
head_there h l k e = head_read h l (rw (eq-eqb _ _ k) e)

pub head_said_lem : (h : Head) (l : List ℕ) → IsHeadLine h l → (get_or l 0 0 ≡ code "C") × (head_line l ≡ says h)
unfolding head_said
head_said_lem h l w =
    let a = need_inv (eqb (get_or l 0 0) (code "C")) _ (says h) _ refuses_says (head_reads h l w) in
    (eqb-true _ _ a.0, a.1)

pub point_there : (p : Point) (l : List ℕ) → get_or l 0 0 ≡ code "C" → point_line l ≡ says p → IsPointLine l
unfolding point_said
point_there p l k e = (point_read p l (rw (eq-eqb _ _ k) e)).0

pub point_said_lem : (l : List ℕ) (w : IsPointLine l) → (get_or l 0 0 ≡ code "C") × (point_line l ≡ says w.point)
unfolding point_said
point_said_lem l w =
    let a = need_inv (eqb (get_or l 0 0) (code "C")) _ (says w.point) _ refuses_says (point_reads l w) in
    (eqb-true _ _ a.0, a.1)
