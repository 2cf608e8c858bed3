-- The look number by number is the look into the entries that the numbers tell. Assumes nothing.
use Rattle.std.specs.Prelude.{None, Option, Some}
use Prim.Native.Nat.{ℕ, zero, suc, ◌+◌, ◌≤◌}
use mathlib.Core.Bool.{Bool, true, false, not, cond, ◌&&◌, ◌||◌}
use mathlib.Core.List.{List, [], ◌∷◌}
use mathlib.Core.Path.{◌≡◌, refl, sym, ap, ◌∙◌}
use native.Mathlib.Omega.{arith}
use borrow.Author.Tests.{le-leb, leb-true}
use lib.Dec.{eqb, leb}
use lib.ListN.{length, get_or}
use Rattle.rules.specs.Choice.{given, need, first_of}
use Rattle.rules.specs.declared.Span.{Span}
use Rattle.rules.specs.Layouts.{empty_layout, span_of, look_in, look, column_text}
use Rattle.rules.specs.Listed.{packed_of}
use Rattle.rules.specs.Looks.{carried_in, twice, is_inside, are_inside, fits_line, look_said, look_number}
use Rattle.rules.specs.Numbers.{whole_of}
use Rattle.rules.specs.Refusals.{Said, says, refuses, no, and_then}
use Rattle.rules.specs.declared.Entry.{Entry}
use Rattle.rules.specs.declared.Layout.{Layout}
use Rattle.rules.specs.declared.Signed.{Signed}
use Rattle.rules.specs.declared.Reason.TheVariants.{BadValue, Absent, NotNumber}
use Rattle.rules.proofs.Inverse.{none_some, given_inv}
use Rattle.rules_sound.proofs.Placed.{laid, entries_laid}
use Rattle.layout_fitting.proofs.Laws.{any_place, outside, placed}
use Rattle.c_entries.specs.Lent.{entries_size, entry_in, no_entries, taken_from, taken_said}
use Rattle.c_entries.proofs.Taken.{entries_in, taken_entries}
use Rattle.c_look.specs.Looks.{look_by, number_by}
use Rattle.c_seek.specs.Parts.{entry_of, stands_in, place_in, is_in, fit_in, span_in, column_in}

-- ---- one entry before others

look_before : (e : Entry) (es : List Entry) (x : ℕ) → look_in (e ∷ es) x ≡ cond (eqb e.code x) (Some (span_of e)) (look_in es x)
unfolding first_of
look_before e es x = ap (cond (eqb e.code x) (Some (span_of e))) (any_place x es 1 0)

-- whether one is outside does not hang on the number of the first place
none_outside : (n : ℕ) (es : List Entry) (k m : ℕ) → given (first_of (outside n) placed es k) true (λ p. false) ≡ given (first_of (outside n) placed es m) true (λ p. false)
unfolding first_of
none_outside n [] k m = refl
none_outside n (e ∷ es) k m = go (outside n e) (none_outside n es (suc k) (suc m))
  where
    go : (t : Bool) → given (first_of (outside n) placed es (suc k)) true (λ p. false) ≡ given (first_of (outside n) placed es (suc m)) true (λ p. false)
        → given (cond t (Some k) (first_of (outside n) placed es (suc k))) true (λ p. false) ≡ given (cond t (Some m) (first_of (outside n) placed es (suc m))) true (λ p. false)
    go true r = refl
    go false r = r

inside_before : (n : ℕ) (e : Entry) (es : List Entry) → are_inside n (e ∷ es) ≡ is_inside n e && are_inside n es
unfolding are_inside first_of
inside_before n e es = go (is_inside n e)
  where
    go : (t : Bool) → given (cond (not t) (Some 0) (first_of (outside n) placed es 1)) true (λ p. false) ≡ t && given (first_of (outside n) placed es 0) true (λ p. false)
    go true = none_outside n es 1 0
    go false = refl

-- ---- one entry's numbers

stands_entry : (bytes : ℕ) (ns : List ℕ) (at : ℕ) → stands_in bytes ns at ≡ given (entry_in ns at) false (is_inside bytes)
unfolding stands_in entry_in
stands_entry bytes ns at = go (leb (get_or ns at 0) 4294967295) (leb (get_or ns (at + 1) 0) 255) (leb (get_or ns (at + 2) 0) 255)
  where
    go : (p q r : Bool) → need p false (λ _. need q false λ _. need r false λ _. is_inside bytes (entry_of ns at)) ≡ given (need p None λ _. need q None λ _. need r None λ _. Some (entry_of ns at)) false (is_inside bytes)
    go false q r = refl
    go true false r = refl
    go true true false = refl
    go true true true = refl

entry_is : (ns : List ℕ) (at : ℕ) (e : Entry) → entry_in ns at ≡ Some e → e ≡ entry_of ns at
unfolding entry_in
entry_is ns at e = go (leb (get_or ns at 0) 4294967295) (leb (get_or ns (at + 1) 0) 255) (leb (get_or ns (at + 2) 0) 255)
  where
    go : (p q r : Bool) → need p None (λ _. need q None λ _. need r None λ _. Some (entry_of ns at)) ≡ Some e → e ≡ entry_of ns at
    go false q r f = absurd (none_some f)
    go true false r f = absurd (none_some f)
    go true true false f = absurd (none_some f)
    go true true true f = let k : entry_of ns at ≡ e = cc in sym k

-- ---- entries

-- the entries, taken apart at the first
first_in : (left : ℕ) (ns : List ℕ) (at : ℕ) (es : List Entry) → entries_in (suc left) ns at ≡ Some es → (tl : List Entry) × (entries_in left ns (at + 3) ≡ Some tl) × (es ≡ entry_of ns at ∷ tl)
unfolding entries_in
first_in left ns at es f =
    let a = given_inv (entry_in ns at) None (Some es) _ none_some f in
    let b = given_inv (entries_in left ns (at + 3)) None (Some es) _ none_some a.2 in
    let k : (a.0 ∷ b.0) ≡ es = cc in
    (b.0, b.1, sym k ∙ ap (λ e. e ∷ b.0) (entry_is ns at a.0 a.1))

-- none that are left
none_in : (ns : List ℕ) (at : ℕ) (es : List Entry) → entries_in zero ns at ≡ Some es → [] ≡ es
unfolding entries_in
none_in ns at es f = cc

look_none : (x : ℕ) → look_in [] x ≡ None
unfolding first_of
look_none x = refl

-- the first one of a code
look_place : (left : ℕ) (ns : List ℕ) (at : ℕ) (es : List Entry) (x : ℕ) → entries_in left ns at ≡ Some es → look_in es x ≡ given (place_in left ns at x) None λ p. Some (span_in ns p)
unfolding place_in
look_place zero ns at es x f = rw (← none_in ns at es f) (look_none x)
look_place (suc left) ns at es x f =
    let a = first_in left ns at es f in
    rw a.2 (look_before (entry_of ns at) a.0 x ∙ go (eqb (get_or ns at 0) x) (look_place left ns (at + 3) a.0 x a.1))
  where
    go : (t : Bool) {o : Option Span} → o ≡ given (place_in left ns (at + 3) x) None (λ p. Some (span_in ns p)) → cond t (Some (span_in ns at)) o ≡ given (cond t (Some at) (place_in left ns (at + 3) x)) None λ p. Some (span_in ns p)
    go true k = refl
    go false k = k

-- a code is there
carried_in_lem : (left : ℕ) (ns : List ℕ) (at : ℕ) (es : List Entry) (x : ℕ) → entries_in left ns at ≡ Some es → carried_in es x ≡ is_in left ns at x
carried_in_lem left ns at es x f = rw (look_place left ns at es x f) (go (place_in left ns at x))
  where
    go : (o : Option ℕ) → given (given o None λ p. Some (span_in ns p)) false (λ s. true) ≡ given o false λ p. true
    go None = refl
    go (Some p) = refl

-- they can be a line's
abbrev Fit : ℕ → List Entry → Bool
Fit bytes es = not (twice es) && are_inside bytes es

fit_none : (bytes : ℕ) → true ≡ Fit bytes []
unfolding twice are_inside first_of
fit_none bytes = refl

-- the tests of one entry, and of those behind it: i that it stands inside, c that its code comes again
module _ (t a : Bool) where
  tests_joined : (i c : Bool) → need i false (λ _. need (not c) false λ _. not t && a) ≡ not (c || t) && (i && a)
  tests_joined true true = refl
  tests_joined true false = refl
  tests_joined false true = refl
  tests_joined false false = sym (go t)
    where
      go : (t : Bool) → (not t && false) ≡ false
      go true = refl
      go false = refl

tests_failed : (i c : Bool) → need i false (λ _. need (not c) false λ _. false) ≡ false
tests_failed true true = refl
tests_failed true false = refl
tests_failed false c = refl

fit_entries : (bytes left : ℕ) (ns : List ℕ) (at : ℕ) → fit_in bytes left ns at ≡ given (entries_in left ns at) false (Fit bytes)
unfolding fit_in entries_in twice
fit_entries bytes zero ns at = fit_none bytes
fit_entries bytes (suc left) ns at =
    rw (stands_entry bytes ns at) (go (entry_in ns at) refl (fit_entries bytes left ns (at + 3)))
  where
    code : Bool
    code = is_in left ns (at + 3) (get_or ns at 0)

    behind : (e : Entry) → entry_in ns at ≡ Some e → (o : Option (List Entry)) → entries_in left ns (at + 3) ≡ o → fit_in bytes left ns (at + 3) ≡ given o false (Fit bytes)
        → need (is_inside bytes e) false (λ _. need (not code) false λ _. fit_in bytes left ns (at + 3)) ≡ given (given o None λ es. Some (e ∷ es)) false (Fit bytes)
    behind e q None f k = rw k (tests_failed (is_inside bytes e) code)
    behind e q (Some es) f k =
        let c : carried_in es e.code ≡ code = ap (λ (y : Entry). carried_in es y.code) (entry_is ns at e q) ∙ carried_in_lem left ns (at + 3) es (get_or ns at 0) f in
        rw (k, inside_before bytes e es, c) (tests_joined (twice es) (are_inside bytes es) (is_inside bytes e) code)

    go : (o : Option Entry) → entry_in ns at ≡ o → fit_in bytes left ns (at + 3) ≡ given (entries_in left ns (at + 3)) false (Fit bytes)
        → need (given o false (is_inside bytes)) false (λ _. need (not code) false λ _. fit_in bytes left ns (at + 3)) ≡ given (given o None λ e. given (entries_in left ns (at + 3)) None λ es. Some (e ∷ es)) false (Fit bytes)
    go None q r = refl
    go (Some e) q r = behind e q (entries_in left ns (at + 3)) refl r

-- how many they are
entries_long : (left : ℕ) (ns : List ℕ) (at : ℕ) (es : List Entry) → entries_in left ns at ≡ Some es → length es ≡ left
entries_long zero ns at es f = rw (← none_in ns at es f)
entries_long (suc left) ns at es f = let a = first_in left ns at es f in rw a.2 (ap suc (entries_long left ns (at + 3) a.0 a.1))

-- ---- the look

-- into the layout of a list of entries
look_laid : (line : List ℕ) (es : List Entry) (name : List ℕ) → length es ≤ 13 → look_said line (laid es) name ≡ need (Fit (length line) es) (no BadValue 0) λ _. given (look_in es (packed_of name)) (no Absent 0) λ s. says s
unfolding look_said fits_line look
look_laid line es name n = rw (entries_laid es, le-leb (length es) 13 n)

module _ (line ns name : List ℕ) (count : ℕ) (few : count ≤ 13) where
  -- the part of the look behind the first two tests
  look_entries : need (fit_in (length line) count ns 1) (no BadValue 0) (λ _. given (place_in count ns 1 (packed_of name)) (no Absent 0) λ p. says (span_in ns p))
      ≡ and_then (taken_from count ns 1 empty_layout) λ es. look_said line es name
  look_entries = rw (fit_entries (length line) count ns 1, taken_entries count ns 1 few) (go (entries_in count ns 1) refl)
    where
      found : (o : Option ℕ) → ◌≡◌ {A = Said Span} (given o (no Absent 0) λ p. says (span_in ns p)) (given (given o None λ p. Some (span_in ns p)) (no Absent 0) λ s. says s)
      found None = refl
      found (Some p) = refl

      go : (o : Option (List Entry)) → entries_in count ns 1 ≡ o
          → need (given o false (Fit (length line))) (no BadValue 0) (λ _. given (place_in count ns 1 (packed_of name)) (no Absent 0) λ p. says (span_in ns p))
          ≡ and_then (given o no_entries λ es. says (laid es)) λ es. look_said line es name
      go None q = refl
      go (Some es) q =
          rw (look_laid line es name (omega (arith, entries_long count ns 1 es q)), look_place count ns 1 es (packed_of name) q)
          (ap (λ (z : Said Span). need (Fit (length line) es) (no BadValue 0) λ _. z) (found (place_in count ns 1 (packed_of name))))

column_same : (line ns name : List ℕ) → column_in (length line) ns (packed_of name) ≡ look_by line ns name
unfolding column_in look_by taken_said
column_same line ns name = go (eqb (length ns) entries_size) (leb (get_or ns 0 0) 13) refl
  where
    go : (t u : Bool) → leb (get_or ns 0 0) 13 ≡ u
        → need t (no BadValue 0) (λ _. need u (no BadValue 0) λ _. need (fit_in (length line) (get_or ns 0 0) ns 1) (no BadValue 0) λ _. given (place_in (get_or ns 0 0) ns 1 (packed_of name)) (no Absent 0) λ p. says (span_in ns p))
        ≡ and_then (need t no_entries λ _. need u no_entries λ _. taken_from (get_or ns 0 0) ns 1 empty_layout) λ es. look_said line es name
    go false u h = refl
    go true false h = refl
    go true true h = look_entries line ns name (get_or ns 0 0) (leb-true (get_or ns 0 0) 13 h)

-- x is the answer of a function, for the code y that is asked for
pub by_numbers : (line ns name : List ℕ) (y : ℕ) (x : Said Span) → y ≡ packed_of name → x ≡ column_in (length line) ns y → x ≡ look_by line ns name
by_numbers line ns name y x same e = e ∙ ap (column_in (length line) ns) same ∙ column_same line ns name

-- the number is that of the column's text
number_same : (line ns name : List ℕ) → number_by line ns name ≡ and_then (look_by line ns name) λ s. given (whole_of (column_text line s)) (no NotNumber 0) λ z. says z
unfolding number_by look_by look_number
number_same line ns name = go (taken_said ns)
  where
    go : (t : Said Layout) → and_then t (λ es. and_then (look_said line es name) λ s. given (whole_of (column_text line s)) (no NotNumber 0) λ z. says z) ≡ and_then (and_then t λ es. look_said line es name) λ s. given (whole_of (column_text line s)) (no NotNumber 0) λ z. says z
    go (says es) = refl
    go (refuses n l b) = refl

pub by_text : (line ns name : List ℕ) (x : Said Signed) → x ≡ and_then (look_by line ns name) (λ s. given (whole_of (column_text line s)) (no NotNumber 0) λ z. says z) → x ≡ number_by line ns name
by_text line ns name x e = e ∙ sym (number_same line ns name)
