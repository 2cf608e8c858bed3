-- Each reader refuses with the number and byte of the first of its checks that fails, 17, then 7 to 13, then 19, then 20, with line 0, and says a value exactly where all pass.
-- Assumes nothing.
use Rattle.std.specs.Prelude.{None, Option, Some}
use Prim.Native.Nat.{ℕ, suc, ◌+◌, ◌-◌, ◌*◌, ◌^◌, ◌≤◌}
use Prim.Native.Char.{code}
use mathlib.Core.Bool.{Bool, true, false, not, ◌&&◌, ◌||◌, cond}
use mathlib.Core.List.{List, [], ◌∷◌}
use mathlib.Core.Path.{◌≡◌, refl, sym, ◌∙◌, ap, subst}
use borrow.Author.Tests.{le-leb, leb-true, not-true}
use lib.Dec.{eqb, leb}
use lib.ListN.{length, get_or, drop}
use Rattle.rules.specs.Choice.{given, need, on, first_of, Each}
use Rattle.rules.specs.Families.{first_start, line_letter, layout_letter}
use Rattle.rules.specs.Refusals.{number, Said, says, refuses}
use Rattle.rules.specs.Numbers.{whole_of}
use Rattle.rules.specs.Listed.{packed_of, code_text}
use Rattle.rules.specs.declared.Span.{Span}
use Rattle.rules.specs.Layouts.{span_of, entries_of, allowed, look_in, look, column_text, length_said, presence_said}
use Rattle.rules.specs.Degrees.{is_fine_position, is_fine_latitude, is_fine_longitude, degrees_of}
use Rattle.rules.specs.Fields.{is_either}
use Rattle.rules.specs.declared.Bounds.{Bounds}
use Rattle.rules.specs.Split.{Stepped, first_crlf, is_start, bounds_of, step_at}
use Rattle.rules.specs.Lines.{b_line, extra_line}
use Rattle.rules.specs.Fixes.{finer_of, fix_of}
use Rattle.rules.specs.Reads.{fields_said, said_of, fix_said, extra_said, reading, event_said, satellites_said, date_said, layout_said, head_said, point_said}
use Rattle.rules.specs.Looks.{carried_in, twice, is_inside, are_inside, fits_line, look_said, look_number}
use Rattle.rules.specs.declared.Signed.{Signed}
use Rattle.rules.specs.declared.Entry.{Entry}
use Rattle.rules.specs.declared.Layout.{Layout}
use Rattle.rules.specs.declared.Extra.{Extra}
use Rattle.rules.specs.declared.Family.{Family}
use Rattle.rules.specs.declared.Family.TheVariants as family
use Rattle.rules.specs.declared.FinePosition.{FinePosition}
use Rattle.rules.proofs.Inverse.{refuses_says, none_some, false_true, given_inv, need_inv, and_inv}
use Rattle.rules_trips.proofs.Each.{each_map}
use Rattle.rules_sound.proofs.Placed.{carries_none, none_carries, allowed_there}
use Rattle.rules_sound.proofs.Entries.{packed_back}
use Rattle.grammar.specs.Grammar.{laid}
use Rattle.grammar.specs.Checks.{Check, check, is_there, has_code, line_checks}
use Rattle.grammar.specs.BothWays.{Slotted}
use Rattle.grammar.specs.Readings.{Spells}
use Rattle.grammar.specs.ReadersRefuse.{RefusesFirst, layout_check, span_in, number_check, columned_reader, are_once, are_within, Once, look_reader, number_reader, layout_reader, entry_reader, numbered_reader, step_reader, coordinate_check, degrees_reader, ReadersRefuse, NamesMeant}
use Rattle.grammar.specs.Endings.{is_ending, has_ending}
use Rattle.grammar.proofs.Endings.{ending_behind, ending_first}
use Rattle.grammar.proofs.Columns.{whole_there, whole_here, name_back}
use Rattle.grammar.proofs.Faulty.{Agrees, agree_need, agree_given, agree_then, agree_last, fix_agrees, extra_agrees, layout_agrees, date_agrees, head_agrees, point_agrees, event_agrees, satellites_agree, found_has, carries_has, fails_first, first_fails, agrees_one, agrees_all}

-- an answer that agrees with a list of checks refuses by the first that fails
refuses_first : {A : Type 0} (s : Said A) (cs : List Check) → Agrees s cs → RefusesFirst cs s
refuses_first s cs h = record {
  refused = λ n k b. (
    λ e. let f = rw e at h in (f.0, fails_first cs n b f.1),
    λ w. agrees_one s cs n b h (first_fails cs n b w.1) ∙ ap (λ x. refuses n x b) (sym w.0),
  );
  said = (λ w. let e = w.1 in rw e at h, agrees_all s cs h);
}

-- ---- a name among entries

named : (name : List ℕ) (xs : List Entry) → Agrees (given (look_in xs (packed_of name)) (refuses 19 0 0) λ s. says s) (check 19 0 (has_code xs (packed_of name)) ∷ [])
named name xs =
    subst (λ t. Agrees (given (look_in xs (packed_of name)) (refuses 19 0 0) λ s. says s) (check 19 0 t ∷ [])) (found_has (packed_of name) xs 0)
    (agree_given 19 0 (look_in xs (packed_of name)) _ [] λ s e. tt)

-- the column of a code that was found
span_found : (x : ℕ) (xs : List Entry) (n : ℕ) (s : Span) → first_of (λ (e : Entry). eqb e.code x) (λ (k : ℕ) (e : Entry). span_of e) xs n ≡ Some s → span_in xs x ≡ s
unfolding first_of span_in
span_found x [] n s h = absurd (none_some h)
span_found x (e ∷ xs) n s h = go (eqb e.code x) h (span_found x xs (suc n) s)
  where
    go : (b : Bool) → cond b (Some (span_of e)) (first_of (λ (e : Entry). eqb e.code x) (λ (k : ℕ) (e : Entry). span_of e) xs (suc n)) ≡ Some s
        → (first_of (λ (e : Entry). eqb e.code x) (λ (k : ℕ) (e : Entry). span_of e) xs (suc n) ≡ Some s → span_in xs x ≡ s)
        → cond b (span_of e) (span_in xs x) ≡ s
    go true h r = cc
    go false h r = r h

-- ---- lines with columns

module _ (i : Slotted) (l : List ℕ) where
  -- the layout of 13 slots, and then the line by its entries
  by_layout : (f : Family) {A : Type 0} (g : Layout → Said A) → ((es : List Entry) → Agrees (g (laid es)) (line_checks f es l))
      → Agrees (need (allowed (first_start f) i.layout) (refuses 17 0 0) λ u. g i.layout) (check 17 0 (allowed (first_start f) i.layout) ∷ line_checks f (entries_of i.layout) l)
  by_layout f g h =
      agree_need 17 0 (allowed (first_start f) i.layout) _ _ λ a.
      subst (λ x. Agrees (g x) (line_checks f (entries_of i.layout) l)) (sym (allowed_there (first_start f) i.layout a i.slots).1) (h (entries_of i.layout))

  fix_first : Agrees (fix_said l i.layout) (columned_reader family.B i.layout l)
  unfolding fix_said number
  fix_first = agree_last (fields_said family.B l i.layout) (fix_of l (finer_of i.layout)) _ (agree_need 17 0 (eqb (get_or l 0 0) 66) _ _ λ k. by_layout family.B (λ x. b_line x l) (λ es. fix_agrees es l))

  extra_first : (x : Extra) → Agrees (extra_said x l i.layout) (columned_reader (family.Extra x) i.layout l)
  unfolding extra_said number
  extra_first x = agree_need 17 0 (eqb (get_or l 0 0) (line_letter (family.Extra x))) _ _ λ k. by_layout (family.Extra x) (λ y. extra_line y l) (λ es. extra_agrees x es l)

  -- and so the whole reading
  value_first : (f : Family) → Agrees (said_of f l i.layout) (columned_reader f i.layout l)
  unfolding fix_said extra_said
  value_first family.B = fix_first
  value_first (family.Extra x) = extra_first x

  reading_first : (f : Family) → Agrees (reading f l i.layout) (columned_reader f i.layout l)
  unfolding reading
  reading_first f = agree_last (said_of f l i.layout) (λ v. record { value = v; entries = i.layout }) _ (value_first f)

-- ---- the look into entries

-- the tests of its 17, in the grammar's words
pub once_same : (es : List Entry) → not (twice es) ≡ are_once es
unfolding twice are_once
once_same [] = refl
once_same (e ∷ es) = not_or (carried_in es e.code) (twice es) ∙ ap (λ b. not b && not (twice es)) (there (look_in es e.code) ∙ found_has e.code es 0) ∙ ap (λ b. not (has_code es e.code) && b) (once_same es)
  where
    not_or : (a b : Bool) → not (a || b) ≡ (not a && not b)
    not_or true b = refl
    not_or false b = refl

    there : (o : Option Span) → given o false (λ s. true) ≡ is_there o
    there None = refl
    there (Some s) = refl

pub within_same : (n : ℕ) (es : List Entry) (k : ℕ) → given (first_of (λ (e : Entry). not (is_inside n e)) (λ (k : ℕ) (e : Entry). k) es k) true (λ k. false) ≡ are_within n es
unfolding is_inside are_within first_of
within_same n [] k = refl
within_same n (e ∷ es) k = go (leb 1 e.first) (leb e.first e.last) (leb e.last n) (within_same n es (suc k))
  where
    go : (a b c : Bool) → given (first_of (λ (e : Entry). not (is_inside n e)) (λ (k : ℕ) (e : Entry). k) es (suc k)) true (λ k. false) ≡ are_within n es
        → given (cond (not (a && b && c)) (Some k) (first_of (λ (e : Entry). not (is_inside n e)) (λ (k : ℕ) (e : Entry). k) es (suc k))) true (λ k. false) ≡ (a && b && c && are_within n es)
    go true true true r = r
    go true true false r = refl
    go true false c r = refl
    go false b c r = refl

need_and : {A : Type 0} (a b c : Bool) (x : A) (f : Unit {0} → A) → need (a && b && c) x f ≡ need a x (λ _. need b x (λ _. need c x f))
need_and true true c x f = refl
need_and true false c x f = refl
need_and false b c x f = refl

module _ (l : List ℕ) (es : Layout) (name : List ℕ) where
  look_first : Agrees (look_said l es name) (look_reader l es name)
  unfolding look_said fits_line are_inside look number
  look_first =
      rw (need_and, once_same, within_same (length l) (entries_of es) 0)
      (agree_need 17 0 (leb es.count 13) _ _ λ a. agree_need 17 0 (are_once (entries_of es)) _ _ λ b. agree_need 17 0 (are_within (length l) (entries_of es)) _ _ λ c. named name (entries_of es))

  span_said : (s : Span) → look_said l es name ≡ says s → span_in (entries_of es) (packed_of name) ≡ s
  unfolding look_said look
  span_said s e =
      let t = need_inv (fits_line l es) _ (says s) _ refuses_says e in
      let g = given_inv (look_in (entries_of es) (packed_of name)) _ (says s) _ refuses_says t.1 in
      let h = g.2 in
      let k : g.0 ≡ s = cc in
      span_found (packed_of name) (entries_of es) 0 g.0 g.1 ∙ k

  number_first : Agrees (look_number l es name) (number_reader l es name)
  unfolding look_number number
  number_first =
      agree_then (look_said l es name) _ _ (number_check es l name ∷ []) look_first λ s e.
      rw (span_said s e) (agree_given 20 0 (whole_of (column_text l s)) _ [] λ z h. tt)

-- ---- the other readers

layout_first : (f : Family) (l : List ℕ) → Agrees (layout_said f l) (layout_reader f l)
unfolding layout_said number
layout_first f l = agree_need 17 0 (eqb (get_or l 0 0) (layout_letter f)) _ _ λ k. layout_agrees f l

-- of a layout alone
allowed_first : (f : Family) {A : Type 0} (i : Layout) (g : Unit {0} → Said A) (cs : List Check) → Agrees (g tt) cs
    → Agrees (need (allowed (first_start f) i) (refuses 17 0 0) g) (layout_check f i ∷ cs)
allowed_first f i g cs h = agree_need 17 0 (allowed (first_start f) i) g cs λ a. h

-- ---- a line by its number, a reading place, and a pair of degrees

-- what comes behind a CR LF from a place on
to_ending : {A : Type 0} (file : List ℕ) (o : ℕ) (g : ℕ → A) → Agrees (given (first_crlf o (drop o file)) (refuses 17 0 0) λ e. says (g e)) (check 17 0 (has_ending (drop o file)) ∷ [])
to_ending file o g =
    subst (λ t. Agrees (given (first_crlf o (drop o file)) (refuses 17 0 0) λ e. says (g e)) (check 17 0 t ∷ [])) (ending_first (drop o file) o)
    (agree_given 17 0 (first_crlf o (drop o file)) _ [] λ e h. tt)

-- a table entry
entry_first : (file : List ℕ) (o : ℕ)
    → Agrees {A = Bounds} (need (is_start file o) (refuses 17 0 0) λ u. given (first_crlf o (drop o file)) (refuses 17 0 0) λ e. says (record { from = o; to = e })) (entry_reader file o)
unfolding is_start
entry_first file o =
    rw (ending_behind (o - 2) file) (agree_need 17 0 (eqb o 0 || (leb 2 o && is_ending (o - 2) file)) _ _ λ c. to_ending file o (λ e. record { from = o; to = e }))

numbered_first : (file table : List ℕ) (n : ℕ) → Agrees (bounds_of file table n) (numbered_reader file table n)
unfolding bounds_of on number
numbered_first file table n = agree_need 17 0 (leb 1 n) _ _ λ a. agree_need 17 0 (leb n (length table)) _ _ λ b. entry_first file (get_or table (n - 1) 0)

step_first : (file : List ℕ) (at : ℕ) → Agrees (step_at file at) (step_reader file at)
unfolding step_at number
step_first file at = agree_need 17 0 (leb at (length file)) _ _ λ a. go (eqb at (length file)) _ _ (to_ending file at (λ e. record { found = Some (record { from = at; to = e }); next = e + 2 }))
  where
    go : (t : Bool) (s : Said Stepped) (v : Stepped) → Agrees s (check 17 0 (has_ending (drop at file)) ∷ []) → Agrees (cond t (says v) s) (check 17 0 (t || has_ending (drop at file)) ∷ [])
    go true s v h = (refl, tt)
    go false s v h = h

-- a position with its decimals, in one test
fine_test : (most a b : ℕ) (p : FinePosition) → is_fine_position most a b p ≡ (leb p.decimals 4 && (leb p.count (most * 10 ^ p.decimals) && (eqb p.letter a || eqb p.letter b)))
unfolding is_fine_position is_either
fine_test most a b p = go (leb p.decimals 4) _
  where
    go : (s t : Bool) → (need s false λ u. t) ≡ (s && t)
    go true t = refl
    go false t = refl

degrees_first : (lat lon : FinePosition) → Agrees (degrees_of lat lon) (degrees_reader lat lon)
unfolding degrees_of number
degrees_first lat lon =
    subst (λ t. Agrees (degrees_of lat lon) (check 17 0 t ∷ coordinate_check 10800000 (code "E") (code "W") lon ∷ [])) (fine_test 5400000 (code "N") (code "S") lat)
    (subst (λ t. Agrees (degrees_of lat lon) (check 17 0 (is_fine_latitude lat) ∷ check 17 0 t ∷ [])) (fine_test 10800000 (code "E") (code "W") lon)
    (agree_need 17 0 (is_fine_latitude lat) _ _ λ a. agree_need 17 0 (is_fine_longitude lon) _ _ λ b. tt))

pub readers_refuse : ReadersRefuse
unfolding date_said head_said point_said event_said satellites_said length_said presence_said number
readers_refuse = record {
  columned = λ f i l. refuses_first _ _ (reading_first i l f);
  look = λ l es name. refuses_first _ _ (look_first l es name);
  number = λ l es name. refuses_first _ _ (number_first l es name);
  layout = λ f l. refuses_first _ _ (layout_first f l);
  date = λ l. refuses_first _ _ (agree_need 17 0 (eqb (get_or l 0 0) 72) _ _ λ k. date_agrees l);
  head = λ l. refuses_first _ _ (agree_need 17 0 (eqb (get_or l 0 0) 67) _ _ λ k. head_agrees l);
  point = λ l. refuses_first _ _ (agree_need 17 0 (eqb (get_or l 0 0) 67) _ _ λ k. point_agrees l);
  event = λ l. refuses_first _ _ (agree_need 17 0 (eqb (get_or l 0 0) 69) _ _ λ k. event_agrees l);
  satellites = λ l. refuses_first _ _ (agree_need 17 0 (eqb (get_or l 0 0) 70) _ _ λ k. satellites_agree l);
  long = λ f i. refuses_first _ _ (allowed_first f i _ [] tt);
  presence = λ i. refuses_first _ _ (allowed_first family.B i _ [] tt);
  numbered = λ file table n. refuses_first _ _ (numbered_first file table n);
  step = λ file at. refuses_first _ _ (step_first file at);
  degrees = λ lat lon. refuses_first _ _ (degrees_first lat lon);
}

-- ---- what the look's 17, 19 and 20 test

-- no entry has this code
none_has : (es : List Entry) (x : ℕ) → has_code es x ≡ false → Each (λ e. e.code ≡ x → ⊥) es
none_has es x h = carries_none es x (carries_has es x ∙ h)

has_none : (es : List Entry) (x : ℕ) → Each (λ e. e.code ≡ x → ⊥) es → has_code es x ≡ false
has_none es x h = sym (carries_has es x) ∙ none_carries es x h

once_there : (es : List Entry) → are_once es ≡ true → Once es
unfolding are_once
once_there [] h = tt
once_there (e ∷ es) h =
    let a = and_inv (not (has_code es e.code)) (are_once es) h in
    (none_has es e.code (not-true _ a.0), once_there es a.1)

once_here : (es : List Entry) → Once es → are_once es ≡ true
unfolding are_once
once_here [] w = refl
once_here (e ∷ es) w = rw (has_none es e.code w.0) (once_here es w.1)

within_there : (n : ℕ) (es : List Entry) → are_within n es ≡ true → Each (λ e. (1 ≤ e.first) × (e.first ≤ e.last) × (e.last ≤ n)) es
unfolding are_within
within_there n [] h = tt
within_there n (e ∷ es) h =
    let a = and_inv (leb 1 e.first && leb e.first e.last && leb e.last n) (are_within n es) h in
    let b = and_inv (leb 1 e.first && leb e.first e.last) (leb e.last n) a.0 in
    let c = and_inv (leb 1 e.first) (leb e.first e.last) b.0 in
    ((leb-true _ _ c.0, leb-true _ _ c.1, leb-true _ _ b.1), within_there n es a.1)

within_here : (n : ℕ) (es : List Entry) → Each (λ e. (1 ≤ e.first) × (e.first ≤ e.last) × (e.last ≤ n)) es → are_within n es ≡ true
unfolding are_within
within_here n [] w = refl
within_here n (e ∷ es) w = rw (le-leb _ _ w.0.0, le-leb _ _ w.0.1, le-leb _ _ w.0.2) (within_here n es w.1)

pub names_meant : NamesMeant
names_meant = record {
  once = λ es. (once_there es, once_here es);
  within = λ n es. (within_there n es, within_here n es);
  absent = λ es name w. (
    λ h. each_map es (λ e no n. no (sym (packed_back e.code) ∙ ap packed_of n)) (none_has es (packed_of name) h),
    λ h. has_none es (packed_of name) (each_map es (λ e no i. no (ap code_text i ∙ name_back name w)) h),
  );
  spelt = λ t. (spelt_there t (whole_of t) refl, λ w. let e = whole_here t w.1 in rw e);
}
  where
    spelt_there : (t : List ℕ) (o : Option Signed) → whole_of t ≡ o → is_there o ≡ true → (z : Signed) × Spells t z
    spelt_there t (Some z) e h = (z, whole_there t z e)
    spelt_there t None e h = absurd (false_true h)
