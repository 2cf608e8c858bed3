-- The check of a line, where it stands behind the lines before, against the list of the line's checks: it may come exactly where they tell that it may; a state is said
-- exactly where all pass, and else the check refuses with the number and byte of the first that fails. Assumes nothing.
use Rattle.std.specs.Prelude.{None, Option, Some}
use Prim.Native.Nat.{ℕ, zero, suc, ◌-◌, ◌+◌, ◌*◌, ◌≤◌}
use Prim.Native.Char.{code}
use mathlib.Core.Bool.{Bool, true, false, not, ◌&&◌, ◌||◌, cond, and-true, and-false, not-not}
use mathlib.Core.List.{List, [], ◌∷◌, ◌++◌}
use mathlib.Core.Path.{◌≡◌, refl, sym, ◌∙◌, ap, subst}
use mathlib.Core.Logic.{◌↔◌, ◌⊎◌, inl, inr}
use native.Mathlib.Omega.{arith}
use borrow.Author.Tests.{le-leb, lt-leb, leb-false, eqb-true, ne_eqb, eq-eqb}
use lib.Dec.{eqb, leb, ltb}
use lib.ListN.{length, length-append}
use Rattle.rules.specs.Roles.{is_declaring, at_start, after_a, after_h, after_layout, in_body, after_g, after_last_g, leading, body_after, stage_after, is_role}
use Rattle.rules.specs.Choice.{need, bytes, given, on, first_of}
use Rattle.rules.specs.Order.{fits_declaration, order_of, moved, laid_out, counted, onward, next_day, back, is_back, passing, timed, declaration_line, header_line, ruled, judge}
use Rattle.rules.specs.declared.Extra.{Extra}
use Rattle.rules.specs.declared.Position.{Position}
use Rattle.rules.specs.declared.FixFields.{FixFields}
use Rattle.rules.specs.declared.Family.{Family}
use Rattle.rules.specs.declared.Family.TheVariants as family
use Rattle.rules.specs.declared.Role.{Role}
use Rattle.rules.specs.declared.Role.TheVariants as role
use Rattle.rules.specs.declared.State.{State}
use Rattle.rules.specs.Families.{first_start, layout_of}
use Rattle.rules.specs.Refusals.{number, Said, says, refuses, and_then}
use Rattle.rules.specs.Chars.{is_valid, is_code, first_invalid, characters}
use Rattle.rules.specs.Numbers.{number_at}
use Rattle.rules.specs.Fields.{time_at}
use Rattle.rules.specs.Listed.{code_at, width_fits, keeps_limit}
use Rattle.rules.specs.Layouts.{with_entry, line_length, span_of, look, carries, placed, entry_at, entries_from, layout_fields, column_text, bad_column, columns}
use Rattle.rules.specs.Lines.{is_sized, shaped, a_line, date_line, h_line, layout_line, head_fields, head_line, point_line, d_line, e_line, bad_pair, f_line, fix_fields, at_limit, shaped_by, b_line, extra_line, columned_line}
use Rattle.rules.specs.declared.AtLimit.{AtLimit}
use Rattle.rules.specs.declared.Entry.{Entry}
use Rattle.rules.proofs.Inverse.{false_true, given_inv, bool_eq}
use Rattle.rules_laws.proofs.Passing.{role_in}
use Rattle.rules_laws.proofs.Walking.{columned_time, event_time, satellites_time}
use Rattle.grammar.specs.Coming.{is_among, only, without, is_open, is_body, letters_before, may_come, or_zero, entry_of, entries_told, ends_at, size_of, last_time, is_in_time}
use Rattle.rules_trips.proofs.Fixes.{fields_there}
use Rattle.grammar.specs.Checks.{is_there, Check, check, AllPass, FailsFirst, one_each, shape_checks, limits_in, column_checks, time_check, pair_checks, has_code, entry_checks, layout_checks, date_checks, header_checks, head_checks, point_checks, then_time, role_checks, checks_of, fix_checks, line_checks, event_checks, satellite_checks}
use Rattle.grammar.specs.Grammar.{laid}
use Rattle.grammar.proofs.Leading.{letter_tests}
use Rattle.grammar.proofs.Standing.{only_without, none_open, declaration_told_lem, laid_out_lem, Stands}
use Rattle.rules_trips.proofs.Each.{each_join}
use Rattle.rules_sound.proofs.Families.{none_pass}
use Rattle.rules_sound.proofs.Placed.{with_laid, entries_laid}
use Rattle.rules_sound.proofs.Columns.{end_of, line_end}
use Rattle.grammar.proofs.Laws.{shape_there}
use Rattle.grammar.proofs.LayoutLines.{there, entry_of_lem}

-- ---- tests

-- what the last test brings with it
implied : (o x h : Bool) → (h ≡ true → o ≡ false) → (not o && (x && h)) ≡ (x && h)
implied o x true f = rw (f refl)
implied true true false f = refl
implied true false false f = refl
implied false x false f = refl

there_need : (t : Bool) (o : Option ℕ) → is_there (need t None λ u. o) ≡ (t && is_there o)
there_need true o = refl
there_need false o = refl

there_leading : (low high next stage : ℕ) → is_there (leading low high next stage) ≡ (leb low stage && leb stage high)
there_leading low high next stage = go (leb low stage && leb stage high)
  where
    go : (t : Bool) → is_there (need t None λ u. Some next) ≡ t
    go true = refl
    go false = refl

-- ---- the declaration

module _ (ls : List (List ℕ)) (st : State) (w : Stands ls st) where
  open_is : leb 1 st.points ≡ is_open ls
  open_is = (declaration_told_lem ls w.declaration).0

  plain_fits : fits_declaration false st ≡ not (is_open ls)
  unfolding fits_declaration
  plain_fits = rw open_is (go (is_open ls))
    where
      go : (o : Bool) → cond o false true ≡ not o
      go true = refl
      go false = refl

  c_fits : fits_declaration true st ≡ (is_open ls || (without (code "C") ls && without (code "B") ls))
  unfolding fits_declaration
  c_fits = rw (open_is, (declaration_told_lem ls w.declaration).1, w.counts family.B, not-not) (go (is_open ls))
    where
      go : (o : Bool) → cond o true (without (code "C") ls && without (code "B") ls) ≡ (o || (without (code "C") ls && without (code "B") ls))
      go true = refl
      go false = refl

  -- among A, H, I, J and M lines there is no declaration
  closed : (xs : List ℕ) → is_among xs (code "C") ≡ false → only xs ls ≡ true → is_open ls ≡ false
  closed xs n e = none_open ls (only_without xs (code "C") ls n e)

  -- ---- role by role

  fitted : (r : Role) → is_there (order_of r st) ≡ (fits_declaration (is_declaring r) st && is_there (stage_after r st.stage))
  unfolding order_of
  fitted r = there_need (fits_declaration (is_declaring r) st) (stage_after r st.stage)

  -- a line of another role than C, from the parts that lead on
  early : (r : Role) (low high next : ℕ) → is_declaring r ≡ false → stage_after r st.stage ≡ leading low high next st.stage
      → is_there (order_of r st) ≡ (not (is_open ls) && (leb low st.stage && leb st.stage high))
  early r low high next c e = fitted r ∙ rw (c, e, plain_fits) (ap (λ t. not (is_open ls) && t) (there_leading low high next st.stage))

  in_body_lem : (leb after_h st.stage && leb st.stage in_body) ≡ is_body ls
  unfolding is_body
  in_body_lem = rw (w.staged.two_lines, w.staged.unsealed)

  plain_body : (r : Role) → is_declaring r ≡ false → stage_after r st.stage ≡ body_after st.stage → is_there (order_of r st) ≡ (not (is_open ls) && is_body ls)
  plain_body r c e = early r after_h in_body in_body c e ∙ ap (λ t. not (is_open ls) && t) in_body_lem

  c_body : is_there (order_of role.Declares st) ≡ may_come role.Declares ls
  unfolding stage_after may_come
  c_body = fitted role.Declares ∙ rw (c_fits, there_leading after_h in_body in_body st.stage, in_body_lem)

  a_first : is_there (order_of role.Opens st) ≡ may_come role.Opens ls
  unfolding stage_after may_come is_open
  a_first =
      early role.Opens at_start at_start after_a refl refl
      ∙ rw (le-leb at_start st.stage (omega arith), (no_more st.stage).0, w.staged.some_line, ← (no_more (length ls)).1)
      (implied (is_open ls) true (eqb (length ls) 0) (λ e. nothing ls (eqb-true (length ls) 0 e)))
    where
      no_more : (n : ℕ) → (leb n 0 ≡ not (leb 1 n)) × (eqb n 0 ≡ not (leb 1 n))
      no_more zero = (refl, refl)
      no_more (suc n) = rw (lt-leb (suc n) 0 (omega arith), ne_eqb (suc n) 0 (λ z. omega arith), le-leb 1 (suc n) (omega arith)) (refl, refl)

      nothing : (ls : List (List ℕ)) → length ls ≡ 0 → is_open ls ≡ false
      nothing [] e = refl
      nothing (l ∷ ls) e = absurd (omega arith)

  h_told : is_there (order_of role.Heads st) ≡ may_come role.Heads ls
  unfolding stage_after may_come is_among bytes
  h_told =
      early role.Heads after_a after_h after_h refl refl
      ∙ rw (w.staged.some_line, w.staged.untold family.B) (implied (is_open ls) (leb 1 (length ls)) (only (bytes "AH") ls) (closed (bytes "AH") refl))

  layout_told : (f : Family) → is_there (order_of (role.Tells f) st) ≡ may_come (role.Tells f) ls
  unfolding stage_after may_come is_among bytes
  layout_told f =
      early (role.Tells f) after_h (after_layout f - 1) (after_layout f) refl refl
      ∙ rw (w.staged.two_lines, w.staged.untold f)
      (implied (is_open ls) (leb 2 (length ls)) (only (letters_before f) ls) (closed (letters_before f) (none_pass (λ f. is_among (letters_before f) (code "C")) refl f)))

  g_told : is_there (order_of role.Seals st) ≡ may_come role.Seals ls
  unfolding stage_after may_come
  g_told =
      early role.Seals after_h after_g after_g refl refl ∙ rw (w.staged.two_lines, w.staged.sealing)

  l_stages : is_there (stage_after role.Remark st.stage) ≡ leb 2 (length ls)
  unfolding stage_after
  l_stages = go (leb st.stage in_body) refl ∙ w.staged.two_lines
    where
      go : (b : Bool) → leb st.stage in_body ≡ b → is_there (cond b (body_after st.stage) (leading after_g after_last_g after_last_g st.stage)) ≡ leb after_h st.stage
      go true e = there_leading after_h in_body in_body st.stage ∙ rw e (and-true (leb after_h st.stage))
      go false e =
          let h = leb-false st.stage in_body e in
          let m = w.staged.most in
          there_leading after_g after_last_g after_last_g st.stage
          ∙ rw (le-leb after_g st.stage (omega arith), le-leb st.stage after_last_g m, le-leb after_h st.stage (omega arith))

  l_told : is_there (order_of role.Remark st) ≡ may_come role.Remark ls
  unfolding may_come
  l_told = fitted role.Remark ∙ rw (plain_fits, l_stages)

  pub order_told : (r : Role) → is_there (order_of r st) ≡ may_come r ls
  unfolding stage_after may_come
  order_told role.Opens = a_first
  order_told role.Heads = h_told
  order_told (role.Tells f) = layout_told f
  order_told (role.Columned f) = plain_body (role.Columned f) refl refl
  order_told role.Declares = c_body
  order_told role.Event = plain_body role.Event refl refl
  order_told role.Satellites = plain_body role.Satellites refl refl
  order_told role.Differential = plain_body role.Differential refl refl
  order_told role.Seals = g_told
  order_told role.Remark = l_told
  order_told role.Other = plain_body role.Other refl refl
  order_told role.NoRole = fitted role.NoRole ∙ and-false (fits_declaration false st)

-- ---- the first that fails

abbrev pub First : List Check → ℕ → ℕ → Type 0
First [] n b = ⊥
First (c ∷ cs) n b = ((c.passes ≡ false) × (c.number ≡ n) × (c.byte ≡ b)) ⊎ ((c.passes ≡ true) × First cs n b)

-- what an answer says of a list of checks
abbrev pub Agrees : {A : Type 0} → Said A → List Check → Type 0
Agrees (says v) cs = AllPass cs
Agrees (refuses n k b) cs = (k ≡ 0) × First cs n b

first_join : (cs ds : List Check) (n b : ℕ) → AllPass cs → First ds n b → First (cs ++ ds) n b
first_join [] ds n b p f = f
first_join (c ∷ cs) ds n b p f = inr (p.0, first_join cs ds n b p.1 f)

first_front : (cs ds : List Check) (n b : ℕ) → First cs n b → First (cs ++ ds) n b
first_front [] ds n b f = absurd f
first_front (c ∷ cs) ds n b (inl f) = inl f
first_front (c ∷ cs) ds n b (inr f) = inr (f.0, first_front cs ds n b f.1)

-- ---- along a chain

module _ {A : Type 0} where
  pub one_more : (s : Said A) (c : Check) (cs : List Check) → c.passes ≡ true → Agrees s cs → Agrees s (c ∷ cs)
  one_more (says v) c cs e h = (e, h)
  one_more (refuses n k b) c cs e h = (h.0, inr (e, h.1))

  pub agree_need : (n b : ℕ) (t : Bool) (f : Unit {0} → Said A) (cs : List Check) → (t ≡ true → Agrees (f tt) cs) → Agrees (need t (refuses n 0 b) f) (check n b t ∷ cs)
  agree_need n b true f cs h = one_more (f tt) (check n b true) cs refl (h refl)
  agree_need n b false f cs h = (refl, inl (refl, refl, refl))

  pub agree_given : {B : Type 0} (n b : ℕ) (o : Option B) (f : B → Said A) (cs : List Check) → ((v : B) → o ≡ Some v → Agrees (f v) cs)
      → Agrees (given o (refuses n 0 b) f) (check n b (is_there o) ∷ cs)
  agree_given n b (Some v) f cs h = one_more (f v) (check n b true) cs refl (h v refl)
  agree_given n b None f cs h = (refl, inl (refl, refl, refl))

  pub agree_then : {B : Type 0} (s : Said B) (f : B → Said A) (cs ds : List Check) → Agrees s cs → ((v : B) → s ≡ says v → Agrees (f v) ds) → Agrees (and_then s f) (cs ++ ds)
  agree_then (says v) f cs ds h g = go (f v) (g v refl)
    where
      go : (s : Said A) → Agrees s ds → Agrees s (cs ++ ds)
      go (says w) x = each_join (λ c. c.passes ≡ true) cs ds h x
      go (refuses n k b) x = (x.0, first_join cs ds n b h x.1)
  agree_then (refuses n k b) f cs ds h g = (h.0, first_front cs ds n b h.1)

  -- the value does not matter
  pub agree_last : {B : Type 0} (s : Said B) (f : B → A) (cs : List Check) → Agrees s cs → Agrees (and_then s λ v. says (f v)) cs
  agree_last (says v) f cs h = h
  agree_last (refuses n k b) f cs h = h

-- one check for each element, where the first that fails was looked for
module _ {A : Type 0} (num : ℕ) (at_byte : ℕ → A → ℕ) (test : A → Bool) where
  each_agrees : {B : Type 0} (found : ℕ → A → ℕ) (place : ℕ → ℕ) → ((i : ℕ) (a : A) → place (found i a) ≡ at_byte i a) → (v : B) (l : List A) (n : ℕ)
      → Agrees (given (first_of (λ a. not (test a)) found l n) (says v) λ i. refuses num 0 (place i)) (one_each num at_byte test l n)
  unfolding first_of one_each
  each_agrees found place same v [] n = tt
  each_agrees found place same v (a ∷ l) n = go (test a) refl (each_agrees found place same v l (suc n))
    where
      go : (t : Bool) → test a ≡ t → Agrees (given (first_of (λ a. not (test a)) found l (suc n)) (says v) λ i. refuses num 0 (place i)) (one_each num at_byte test l (suc n))
          → Agrees (given (cond (not t) (Some (found n a)) (first_of (λ a. not (test a)) found l (suc n))) (says v) λ i. refuses num 0 (place i))
          (check num (at_byte n a) t ∷ one_each num at_byte test l (suc n))
      go true e h = one_more (given (first_of (λ a. not (test a)) found l (suc n)) (says v) λ i. refuses num 0 (place i)) (check num (at_byte n a) true) (one_each num at_byte test l (suc n)) refl h
      go false e h = (refl, inl (refl, refl, sym (same n a)))

shape_agrees : (least most : ℕ) (in_h : Bool) (l : List ℕ) → Agrees (shaped least most in_h l) (shape_checks least most in_h l)
unfolding shaped is_sized shape_checks characters first_invalid number
shape_agrees least most in_h l =
    agree_need 7 0 (leb least (length l) && leb (length l) most) _ _ λ e.
    each_agrees 8 (λ i b. i + 1) (is_valid in_h) (λ i b. i) (λ i. i + 1) (λ i b. refl) tt l 0

columns_agree : (at : AtLimit) (l : List ℕ) (es : List Entry) → Agrees (columns at l (laid es)) (column_checks at l es)
unfolding columns bad_column column_checks number
columns_agree at l es =
    rw (entries_laid es)
    (each_agrees 13 (λ (i : ℕ) (e : Entry). e.first) (λ e. keeps_limit at e.code (column_text l (span_of e))) (λ (k : ℕ) (e : Entry). e.first) (λ i. i) (λ i e. refl) tt es 0)

-- ---- times

-- no time falls from where none was
in_time : (before : Option ℕ) (now : ℕ) → not (is_back (passing (or_zero before) now)) ≡ is_in_time before now
unfolding passing is_in_time
in_time None now = rw (le-leb 0 now (omega arith))
in_time (Some t) now = go (leb t now) (ltb 43200 (t - now))
  where
    go : (a b : Bool) → not (is_back (cond a onward (cond b next_day back))) ≡ (a || b)
    go true b = refl
    go false true = refl
    go false false = refl

-- the checks of a line, and then of its time
module _ (ls : List (List ℕ)) (l : List ℕ) where
  then_time_lem : (s : Said ℕ) (st : State) (cs : List Check) → st.clock ≡ or_zero (last_time ls) → ((t : ℕ) → s ≡ says t → time_at l 1 ≡ Some t) → Agrees s cs
      → Agrees (and_then s (λ t. timed t st)) (then_time cs ls l)
  unfolding timed number
  then_time_lem s st cs c at_time h =
      agree_then s (λ t. timed t st) cs (time_check ls l ∷ []) h λ t e.
      let i : not (is_back (passing st.clock t)) ≡ is_in_time (last_time ls) (or_zero (time_at l 1)) =
      ap (λ x. not (is_back (passing x t))) c ∙ in_time (last_time ls) t ∙ ap (is_in_time (last_time ls)) (sym (there (time_at l 1) (at_time t e))) in
      subst (λ x. Agrees (timed t st) (check 14 2 x ∷ [])) i (agree_need 14 2 (not (is_back (passing st.clock t))) _ [] λ e. tt)

-- ---- lines with columns

ends_same : (es : List Entry) (start : ℕ) → end_of es start ≡ ends_at (start - 1) es
unfolding ends_at
ends_same [] start = refl
ends_same (e ∷ es) start = let n : e.last + 1 - 1 ≡ e.last = omega arith in ends_same es (e.last + 1) ∙ ap (λ x. ends_at x es) n

-- the length that a layout gives is where its last column ends
pub length_laid : (f : Family) (es : List Entry) → line_length (first_start f) (laid es) ≡ size_of f es
length_laid family.B es = line_end 36 es ∙ ends_same es 36
length_laid (family.Extra x) es = line_end 8 es ∙ ends_same es 8

pairs_agree : {A : Type 0} (v : A) (l : List ℕ) (at : ℕ) → Agrees (given (bad_pair at l) (says v) λ i. refuses 9 0 (i + 1)) (pair_checks at l)
unfolding bad_pair pair_checks
pairs_agree v [] at = tt
pairs_agree v (a ∷ []) at = tt
pairs_agree v (a ∷ b ∷ l) at = go (is_code a && is_code b) (pairs_agree v l (at + 2))
  where
    go : (t : Bool) → Agrees (given (bad_pair (at + 2) l) (says v) λ i. refuses 9 0 (i + 1)) (pair_checks (at + 2) l)
        → Agrees (given (cond t (bad_pair (at + 2) l) (Some at)) (says v) λ i. refuses 9 0 (i + 1)) (check 9 (at + 1) t ∷ pair_checks (at + 2) l)
    go true h = one_more (given (bad_pair (at + 2) l) (says v) λ i. refuses 9 0 (i + 1)) (check 9 (at + 1) true) (pair_checks (at + 2) l) refl h
    go false h = (refl, inl (refl, refl, refl))

-- link by link
ruleset agreeing = (agree_last, agree_need, agree_given, agree_then, shape_agrees, columns_agree, pairs_agree)

fields_agree : (l : List ℕ) → Agrees (fix_fields l) (fix_checks l)
unfolding fix_fields on number
fields_agree l = search agreeing depth 20

-- a coordinate that is at its limit
pub at_most : (o : Option Position) (most : ℕ) → ((given o false λ p. eqb p.count most) ≡ true) ↔ ((p : Position) × (o ≡ Some p) × (p.count ≡ most))
at_most o most = (λ e. let g = given_inv o false true _ false_true e in (g.0, g.1, eqb-true _ _ g.2), λ h. rw (h.1, eq-eqb _ _ h.2))

-- the coordinates that are at their limits, by the line and by its fields
limits_same : (l : List ℕ) (f : FixFields) → fix_fields l ≡ says f → limits_in family.B l ≡ at_limit f
unfolding at_limit
limits_same l f e = let w = fields_there l f e in rw (w.at_lat, w.at_lon)

pub fix_agrees : (es : List Entry) (l : List ℕ) → Agrees (b_line (laid es) l) (line_checks family.B es l)
unfolding b_line shaped_by
fix_agrees es l =
    rw (length_laid family.B es)
    (agree_then (shaped (size_of family.B es) (size_of family.B es) false l) _ _ _ (shape_agrees (size_of family.B es) (size_of family.B es) false l) λ u h.
    agree_then (fix_fields l) _ (fix_checks l) _ (fields_agree l) λ f e.
    subst (λ at. Agrees (and_then (columns (at_limit f) l (laid es)) λ u. says f) (column_checks at l es)) (sym (limits_same l f e))
    (agree_last (columns (at_limit f) l (laid es)) (λ u. f) _ (columns_agree (at_limit f) l es)))

pub extra_agrees : (x : Extra) (es : List Entry) (l : List ℕ) → Agrees (extra_line (laid es) l) (line_checks (family.Extra x) es l)
unfolding extra_line shaped_by number
extra_agrees x es l = rw (length_laid (family.Extra x) es) (search agreeing depth 20)

pub line_agrees : (f : Family) (es : List Entry) (l : List ℕ) → Agrees (columned_line f (laid es) l) (line_checks f es l)
unfolding columned_line
line_agrees family.B es l = agree_last (b_line (laid es) l) (λ f. f.time) (line_checks family.B es l) (fix_agrees es l)
line_agrees (family.Extra x) es l = extra_agrees x es l

-- ---- line 2, C lines, E lines and F lines

module _ (l : List ℕ) where
  pub date_agrees : Agrees (date_line l) (date_checks l)
  unfolding date_line number
  date_agrees = search agreeing depth 20

  pub head_agrees : Agrees (head_line l) (head_checks l)
  unfolding head_line head_fields number
  head_agrees = search agreeing depth 20

  pub point_agrees : Agrees (point_line l) (point_checks l)
  unfolding point_line number
  point_agrees = search agreeing depth 20

  pub event_agrees : Agrees (e_line l) (event_checks l)
  unfolding e_line number
  event_agrees = search agreeing depth 20

  pub satellites_agree : Agrees (f_line l) (satellite_checks l)
  unfolding f_line number
  satellites_agree = search agreeing depth 20

-- ---- I, J and M lines

-- a code is found among entries exactly where one of them has it
pub found_has : (x : ℕ) (es : List Entry) (n : ℕ) → is_there (first_of (λ (e : Entry). eqb e.code x) (λ (k : ℕ) (e : Entry). span_of e) es n) ≡ has_code es x
unfolding has_code first_of
found_has x [] n = refl
found_has x (e ∷ es) n = go (eqb e.code x) (found_has x es (suc n))
  where
    go : (b : Bool) → is_there (first_of (λ (e : Entry). eqb e.code x) (λ (k : ℕ) (e : Entry). span_of e) es (suc n)) ≡ has_code es x
        → is_there (cond b (Some (span_of e)) (first_of (λ (e : Entry). eqb e.code x) (λ (k : ℕ) (e : Entry). span_of e) es (suc n))) ≡ (b || has_code es x)
    go true r = refl
    go false r = r

pub carries_has : (es : List Entry) (x : ℕ) → carries (laid es) x ≡ has_code es x
unfolding carries look
carries_has es x = ap (λ l. is_there (first_of (λ (e : Entry). eqb e.code x) (λ (k : ℕ) (e : Entry). span_of e) l 0)) (entries_laid es) ∙ found_has x es 0

placed_agrees : (start : ℕ) (before : List Entry) (e : Entry) (n : ℕ) → Agrees (placed start (laid before) e n)
    (check 10 n (eqb e.first start)
    ∷ check 10 n (leb e.first e.last)
    ∷ check 11 n (not (has_code before e.code))
    ∷ check 12 n (width_fits e.code (e.last - e.first + 1))
    ∷ [])
unfolding placed number
placed_agrees start before e n =
    rw (carries_has before e.code) (search agreeing depth 12)

entry_agrees : (l : List ℕ) (at start : ℕ) (before : List Entry) → Agrees (entry_at l at start (laid before)) (entry_checks 1 l at start before)
unfolding entry_at entry_checks number
entry_agrees l at start before =
    agree_given 9 (at + 1) (number_at l at 2) _ _ λ ss p.
    agree_given 9 (at + 3) (number_at l (at + 2) 2) _ _ λ ff q.
    agree_given 9 (at + 5) (code_at l (at + 4)) _ _ λ ccc r.
    rw (there (number_at l at 2) p, there (number_at l (at + 2) 2) q, there (code_at l (at + 4)) r)
    (placed_agrees start before (record { first = ss; last = ff; code = ccc }) (at + 1))

entries_agree : (left : ℕ) (l : List ℕ) (at start : ℕ) (before : List Entry) → length before + left ≤ 13
    → Agrees (entries_from left l at start (laid before)) (entry_checks left l at start before)
unfolding entries_from entry_checks
entries_agree zero l at start before n = tt
entries_agree (suc left) l at start before n =
    agree_then (entry_at l at start (laid before)) _ (entry_checks 1 l at start before) (entry_checks left l (at + 7) ((entry_of l at).last + 1) (before ++ (entry_of l at ∷ [])))
    (entry_agrees l at start before) λ e h.
    subst (λ x. Agrees (entries_from left l (at + 7) (e.last + 1) (with_entry (laid before) e)) (entry_checks left l (at + 7) (x.last + 1) (before ++ (x ∷ []))))
    (sym (entry_of_lem l at start (laid before) e h))
    (subst (λ x. Agrees (entries_from left l (at + 7) (e.last + 1) x) (entry_checks left l (at + 7) (e.last + 1) (before ++ (e ∷ []))))
    (sym (with_laid before e (omega arith)))
    (entries_agree left l (at + 7) (e.last + 1) (before ++ (e ∷ [])) (omega (arith, length-append before (e ∷ [])))))

pub layout_agrees : (f : Family) (l : List ℕ) → Agrees (layout_line (first_start f) l) (layout_checks f l)
unfolding layout_line layout_fields number
layout_agrees f l =
    agree_then (shaped 3 99 false l) _ (shape_checks 3 99 false l) _ (shape_agrees 3 99 false l) λ u s.
    agree_given 9 2 (number_at l 1 2) _ _ λ nn e.
    rw (there (number_at l 1 2) e)
    (agree_need 9 2 (eqb (length l) (3 + 7 * nn)) _ _ λ p.
    let i = eqb-true (length l) (3 + 7 * nn) p in
    entries_agree nn l 3 (first_start f) [] (omega (arith, (shape_there 3 99 false l u s).short)))

-- ---- the line

-- either way of two
agree_cond : {A : Type 0} (t u : Bool) (a b : Said A) (cs ds : List Check) → t ≡ u → Agrees a cs → Agrees b ds → Agrees (cond t a b) (cond u cs ds)
agree_cond true u a b cs ds e h g = rw (← e) h
agree_cond false u a b cs ds e h g = rw (← e) g

second_line : (n : ℕ) → eqb (n + 1) 2 ≡ eqb n 1
second_line n =
    bool_eq (eqb (n + 1) 2) (eqb n 1) (λ e. let i = eqb-true (n + 1) 2 e in eq-eqb n 1 (omega arith)) (λ e. let i = eqb-true n 1 e in eq-eqb (n + 1) 2 (omega arith))

-- a C line is a point where the declaration is open
open_points : (ls : List (List ℕ)) (st : State) → Stands ls st → not (eqb st.points 0) ≡ is_open ls
open_points ls st w = go st.points ∙ (declaration_told_lem ls w.declaration).0
  where
    go : (n : ℕ) → not (eqb n 0) ≡ leb 1 n
    go zero = refl
    go (suc n) = rw (ne_eqb (suc n) 0 (λ z. omega arith), le-leb 1 (suc n) (omega arith))

either_way : (t u : Bool) {A : Type 0} (a b : Said A) (cs ds : List Check) → not t ≡ u → Agrees a cs → Agrees b ds → Agrees (cond t a b) (cond u ds cs)
either_way true u a b cs ds e h g = rw (← e) h
either_way false u a b cs ds e h g = rw (← e) g

module _ (ls : List (List ℕ)) (l : List ℕ) (st : State) (w : Stands ls st) where
  ruled_agrees : (r : Role) (stage : ℕ) → is_role r ≡ true → Agrees (ruled r l (moved stage st)) (role_checks r ls l)
  unfolding ruled header_line declaration_line a_line h_line d_line on number
  ruled_agrees role.Opens stage i = search agreeing depth 20
  ruled_agrees role.Heads stage i =
      agree_cond (eqb (st.flight.lines + 1) 2) (eqb (length ls) 1) _ _ (date_checks l) (header_checks l) (second_line st.flight.lines ∙ ap (λ n. eqb n 1) w.lines)
      (agree_last (date_line l) _ (date_checks l) (date_agrees l))
      (search agreeing depth 20)
  ruled_agrees (role.Tells f) stage i = agree_last (layout_line (first_start f) l) (λ x. laid_out f x (moved stage st)) (layout_checks f l) (layout_agrees f l)
  ruled_agrees (role.Columned f) stage i =
      let es = entries_told f ls in
      let cs = line_checks f es l in
      let x = layout_of f st.flight.layouts in
      then_time_lem ls l (columned_line f x l) (counted f (moved stage st)) cs w.clock (λ t. columned_time f x t l) (subst (λ y. Agrees (columned_line f y l) cs) (sym (laid_out_lem f (w.told f))) (line_agrees f es l))
  ruled_agrees role.Declares stage i =
      either_way (eqb st.points 0) (is_open ls) _ _ (head_checks l) (point_checks l) (open_points ls st w)
      (agree_last (head_line l) _ (head_checks l) (head_agrees l))
      (agree_last (point_line l) _ (point_checks l) (point_agrees l))
  ruled_agrees role.Event stage i = then_time_lem ls l (e_line l) (moved stage st) (event_checks l) w.clock (λ t. event_time t l) (event_agrees l)
  ruled_agrees role.Satellites stage i = then_time_lem ls l (f_line l) (moved stage st) (satellite_checks l) w.clock (λ t. satellites_time t l) (satellites_agree l)
  ruled_agrees role.Differential stage i = search agreeing depth 20
  ruled_agrees role.Seals stage i = search agreeing depth 20
  ruled_agrees role.Remark stage i = search agreeing depth 20
  ruled_agrees role.Other stage i = search agreeing depth 20
  ruled_agrees role.NoRole stage i = absurd (false_true i)

  judge_agrees : Agrees (judge l st) (checks_of ls l)
  unfolding judge checks_of on number
  judge_agrees =
      let r = role_in l in
      agree_need 4 1 (leb 1 (length l)) _ _ λ e.
      rw (← (letter_tests l).0)
      (agree_need 5 1 (is_role r) _ _ λ i.
      subst (λ t. Agrees (given (order_of r st) (refuses 6 0 1) λ stage. ruled r l (moved stage st)) (check 6 1 t ∷ role_checks r ls l)) (order_told ls st w r)
      (agree_given 6 1 (order_of r st) _ (role_checks r ls l) λ stage e. ruled_agrees r stage i))

-- ---- the first that fails, told apart

pub fails_first : (cs : List Check) (n b : ℕ) → First cs n b → FailsFirst cs n b
fails_first [] n b f = absurd f
fails_first (c ∷ cs) n b (inl f) = record { before = []; failed = c; after = cs; order = refl; passed = tt; fails = f.0; numbered = f.1; placed = f.2 }
fails_first (c ∷ cs) n b (inr f) =
    let r = fails_first cs n b f.1 in
    let order = ap (λ x. c ∷ x) r.order in
    record { before = c ∷ r.before; failed = r.failed; after = r.after; order = order; passed = (f.0, r.passed); fails = r.fails; numbered = r.numbered; placed = r.placed }

pub first_fails : (cs : List Check) (n b : ℕ) → FailsFirst cs n b → First cs n b
first_fails cs n b w =
    subst (λ x. First x n b) (sym w.order) (first_join w.before (w.failed ∷ w.after) n b w.passed (inl (w.fails, w.numbered, w.placed)))

-- not where all pass, and at one place only
none_fails : (cs : List Check) (n b : ℕ) → AllPass cs → First cs n b → ⊥
none_fails [] n b p f = f
none_fails (c ∷ cs) n b p (inl f) = false_true (sym f.0 ∙ p.0)
none_fails (c ∷ cs) n b p (inr f) = none_fails cs n b p.1 f.1

one_first : (cs : List Check) (n b m c : ℕ) → First cs n b → First cs m c → (n ≡ m) × (b ≡ c)
one_first [] n b m c f g = absurd f
one_first (x ∷ cs) n b m c (inl f) (inl g) = (sym f.1 ∙ g.1, sym f.2 ∙ g.2)
one_first (x ∷ cs) n b m c (inl f) (inr g) = absurd (false_true (sym f.0 ∙ g.0))
one_first (x ∷ cs) n b m c (inr f) (inl g) = absurd (false_true (sym g.0 ∙ f.0))
one_first (x ∷ cs) n b m c (inr f) (inr g) = one_first cs n b m c f.1 g.1

pub agrees_one : {A : Type 0} (s : Said A) (cs : List Check) (n b : ℕ) → Agrees s cs → First cs n b → s ≡ refuses n 0 b
agrees_one (says v) cs n b h f = absurd (none_fails cs n b h f)
agrees_one (refuses m k c) cs n b h f = let o = one_first cs m c n b h.1 f in let z = h.0 in cc

pub agrees_all : {A : Type 0} (s : Said A) (cs : List Check) → Agrees s cs → AllPass cs → (v : A) × (s ≡ says v)
agrees_all (says v) cs h p = (v, refl)
agrees_all (refuses n k b) cs h p = absurd (none_fails cs n b p h.1)

module _ (ls : List (List ℕ)) (l : List ℕ) (st : State) (w : Stands ls st) where
  -- a line is refused exactly where a check fails first, with its number and byte
  pub judge_fails : (n k b : ℕ) → judge l st ≡ refuses n k b → FailsFirst (checks_of ls l) n b
  judge_fails n k b e = fails_first (checks_of ls l) n b (rw e at (judge_agrees ls l st w)).1

  pub fails_judge : (n b : ℕ) → FailsFirst (checks_of ls l) n b → judge l st ≡ refuses n 0 b
  fails_judge n b f = agrees_one (judge l st) (checks_of ls l) n b (judge_agrees ls l st w) (first_fails (checks_of ls l) n b f)

  -- and it is good exactly where all checks pass
  pub judge_passes : (m : State) → judge l st ≡ says m → AllPass (checks_of ls l)
  judge_passes m e = rw e at (judge_agrees ls l st w)

  pub passes_judge : AllPass (checks_of ls l) → (m : State) × (judge l st ≡ says m)
  passes_judge p = agrees_all (judge l st) (checks_of ls l) (judge_agrees ls l st w) p
