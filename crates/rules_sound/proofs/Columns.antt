-- The columns of a layout that a line tells: each is found by its code, they keep their rules exactly where the line passes, and they cover the line from the first start
-- to its end. Assumes nothing.
use Rattle.std.specs.Prelude.{None, Option, Some}
use Prim.Native.Nat.{ℕ, suc, ◌+◌, ◌-◌, ◌≤◌}
use mathlib.Core.Bool.{true, false, not}
use mathlib.Core.List.{List, [], ◌∷◌, ◌++◌, append_assoc}
use mathlib.Core.Path.{◌≡◌, refl, ap, subst, ◌∙◌}
use native.Mathlib.Omega.{arith}
use borrow.Author.Tests.{eqb-true, eq-eqb, ne_eqb, not-false}
use lib.ListN.{length, get_or, take, drop, replicate, length-append, take-append-drop, drop_of_length-le, get_or-append}
use lib.Seq.{drop-drop}
use Rattle.rules.specs.Choice.{given, first_of, byte, Each}
use Rattle.rules.specs.Refusals.{says, no}
use Rattle.rules.specs.Listed.{keeps_limit}
use Rattle.rules.specs.declared.Reason.TheVariants.{Column}
use Rattle.rules.specs.declared.Span.{Span}
use Rattle.rules.specs.Layouts.{unused, empty_layout, with_entry, entries_of, span_of, look, carries, line_length, column_text, bad_column, columns}
use Rattle.rules.specs.declared.AtLimit.{AtLimit}
use Rattle.rules.specs.declared.Entry.{Entry}
use Rattle.rules.specs.declared.Layout.{Layout}
use Rattle.rules.proofs.Inverse.{refuses_says, false_true, given_inv}
use Rattle.rules_trips.proofs.Texts.{are_valid, both_valid}
use Rattle.rules_trips.proofs.Each.{each_map, nothing_found, none_found, found_one}
use Rattle.rules_trips.proofs.Placing.{Fits}
use Rattle.rules_sound.proofs.Entries.{Tiled}
use Rattle.rules_sound.proofs.Placed.{laid, with_laid, Coded, carries_none, Sound, allowed_there}

-- ---- each column is found by its code

-- a code that is carried has one
pub carried_there : (layout : Layout) (x : ℕ) → carries layout x ≡ true → (s : Span) × (look layout x ≡ Some s)
unfolding carries
carried_there layout x h = let g = given_inv (look layout x) false true _ false_true h in (g.0, g.1)

-- what is so of each code and its place is so of a code that was looked for, and the place that was found
pub each_at : (P : ℕ → Span → Type 0) (layout : Layout) (x : ℕ) (s : Span) → Each (λ (e : Entry). P e.code (span_of e)) (entries_of layout) → look layout x ≡ Some s → P x s
unfolding look
each_at P layout x s h e =
    let f = found_one (Coded x) (λ (k : ℕ) (d : Entry). span_of d) _ (entries_of layout) 0 s h e in
    let i : f.0.code ≡ x = eqb-true _ _ f.3 in
    subst (P x) f.4 (subst (λ y. P y (span_of f.0)) i f.2)

-- past entries of other codes
past_others : (x : ℕ) (pre es : List Entry) (n : ℕ) → Each (λ e. Coded x e ≡ false) pre
    → first_of (Coded x) (λ k e. span_of e) (pre ++ es) n ≡ first_of (Coded x) (λ k e. span_of e) es (length pre + n)
unfolding first_of
past_others x [] es n h = ap (λ i. first_of (Coded x) (λ k e. span_of e) es i) (omega arith)
past_others x (e ∷ pre) es n h =
    rw h.0 (past_others x pre es (suc n) h.1 ∙ ap (λ i. first_of (Coded x) (λ k e. span_of e) es i) (omega arith))

-- each entry is the first of its code
pub looked : (start : ℕ) (pre es : List Entry) → length pre + length es ≤ 13 → Tiled es start (laid pre)
    → Each (λ e. first_of (Coded e.code) (λ k e. span_of e) (pre ++ es) 0 ≡ Some (span_of e)) es
unfolding first_of
looked start pre [] n w = tt
looked start pre (e ∷ es) n w =
    let f : Fits start (laid pre) e = w.1 in
    let r = looked (e.last + 1) (pre ++ (e ∷ [])) es (omega (arith, length-append pre (e ∷ []))) (subst (Tiled es (e.last + 1)) (with_laid pre e (omega arith)) w.2) in (
      past_others e.code pre (e ∷ es) 0 (each_map pre (λ x. ne_eqb x.code e.code) (carries_none pre e.code f.once)) ∙ rw (eq-eqb e.code e.code refl),
      each_map es (λ x h. subst (λ l. first_of (Coded x.code) (λ k e. span_of e) l 0 ≡ Some (span_of x)) (append_assoc pre (e ∷ []) es) h) r,
    )

pub each_looked : (start : ℕ) (layout : Layout) → Sound start layout → Each (λ (e : Entry). look layout e.code ≡ Some (span_of e)) (entries_of layout)
unfolding look
each_looked start layout s =
    let a = (allowed_there start layout s.right s.full).0 in
    looked start [] (entries_of layout) (omega (arith, a.few, a.count)) a.tiled

-- ---- each listed one keeps its rule exactly where the line's columns pass

module _ (at : AtLimit) (l : List ℕ) (layout : Layout) where
  abbrev pub Kept : Type 0
  Kept = Each (λ (e : Entry). keeps_limit at e.code (column_text l (span_of e)) ≡ true) (entries_of layout)

  pub ruled_there : columns at l layout ≡ says tt → Kept
  unfolding columns bad_column
  ruled_there h = each_map (entries_of layout) (λ e. not-false _) (nothing_found _ (λ k e. e.first) (entries_of layout) 0 (none_there _ h))
    where
      none_there : (o : Option ℕ) → given o (says tt) (λ first. no Column first) ≡ says (tt {0}) → o ≡ None
      none_there None h = refl
      none_there (Some i) h = absurd (refuses_says h)

  pub ruled_here : Kept → columns at l layout ≡ says tt
  unfolding columns bad_column
  ruled_here h = rw (none_found _ (λ (k : ℕ) (e : Entry). e.first) (entries_of layout) 0 (each_map (entries_of layout) (λ e. ap not) h))

-- ---- and they cover the line

-- where a line ends, the first of these entries starting at `start`
abbrev pub end_of : List Entry → ℕ → ℕ
end_of [] start = start - 1
end_of (e ∷ es) start = end_of es (e.last + 1)

last_end : (e : Entry) (es : List Entry) → (get_or (e ∷ es) (length es) unused).last ≡ end_of es (e.last + 1)
last_end e [] = omega arith
last_end e (x ∷ es) = last_end x es

pub line_end : (start : ℕ) (es : List Entry) → line_length start (laid es) ≡ end_of es start
unfolding line_length
line_end start [] = refl
line_end start (e ∷ es) =
    let n : suc (length es) - 1 ≡ length es = omega arith in
    let g = get_or-append (e ∷ es) (replicate (13 - suc (length es)) unused) unused (length es) (omega arith) in
    rw (ne_eqb (suc (length es)) 0 (λ z. omega arith), n, g) (last_end e es)

valid_from : (es : List Entry) (start : ℕ) (before : Layout) (l : List ℕ) → 1 ≤ start → Tiled es start before → length l ≡ end_of es start
    → Each (λ (e : Entry). are_valid (column_text l (span_of e)) ≡ true) es → are_valid (drop (byte start) l) ≡ true
unfolding are_valid
valid_from [] start before l o w n h = rw (drop_of_length-le l {i = start - 1} (omega arith))
valid_from (e ∷ es) start before l o w n h =
    let f : Fits start before e = w.1 in
    let r = valid_from es (e.last + 1) (with_entry before e) l (omega arith) w.2 n h.1 in
    let z : e.last + 1 - 1 ≡ e.last = omega arith in
    let i : e.first - 1 ≡ start - 1 = omega (arith, f.starts) in
    let k : start - 1 + (e.last - (start - 1)) ≡ e.last = omega (arith, f.starts, f.ends) in
    let d : drop (e.last - (start - 1)) (drop (start - 1) l) ≡ drop e.last l = drop-drop (e.last - (start - 1)) (start - 1) l ∙ ap (λ i. drop i l) k in
    rw (← take-append-drop (e.last - (start - 1)) (drop (start - 1) l), d)
    (both_valid (take (e.last - (start - 1)) (drop (start - 1) l)) (drop e.last l) (rw i at h.0) (rw z at r))

-- a line whose columns are valid is valid from the first start on
pub columns_valid : (start : ℕ) (layout : Layout) (l : List ℕ) → 1 ≤ start → Sound start layout → length l ≡ line_length start layout
    → Each (λ (e : Entry). are_valid (column_text l (span_of e)) ≡ true) (entries_of layout) → are_valid (drop (byte start) l) ≡ true
columns_valid start layout l o s n h =
    let a = allowed_there start layout s.right s.full in
    valid_from (entries_of layout) start empty_layout l o a.0.tiled (n ∙ ap (line_length start) a.1 ∙ line_end start (entries_of layout)) h
