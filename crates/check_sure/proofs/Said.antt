-- A line that is surely good is said to be good: what is mild has its shape, and digits or a kept pattern keep every column's rule. Assumes nothing.
use Rattle.std.specs.Prelude.{None, Option, Some}
use Prim.Native.Nat.{ℕ, zero, suc, ◌+◌, ◌-◌, ◌≤◌}
use mathlib.Core.Bool.{Bool, true, false, not, cond, ◌&&◌, ◌||◌}
use mathlib.Core.List.{List, [], ◌∷◌}
use mathlib.Core.Path.{◌≡◌, refl, sym, ap, ◌∙◌}
use native.Mathlib.Omega.{arith}
use borrow.Author.Tests.{leb-true, le-leb, eqb-true, not-true}
use lib.Dec.{eqb, leb}
use lib.ListN.{length, get_or, take, drop}
use lib.Seq.{drop-drop}
use Rattle.rules.specs.Families.{first_start}
use Rattle.rules.specs.Choice.{leads, first_of, given, need, part, byte}
use Rattle.rules.specs.Chars.{is_digit, characters}
use Rattle.rules.specs.Layouts.{entries_of, span_of, column_text, bad_column, columns, line_length, with_entry, is_said, is_spelt, placed, all_placed, allowed}
use Rattle.rules.specs.Lines.{is_sized, shaped, shaped_by, b_line, extra_line, columned_line, fix_fields, at_limit}
use Rattle.rules.specs.Listed.{listed_number, listed, unlisted, is_digits, keeps_sign, keeps_rule, off_limit, is_past, keeps_limit}
use Rattle.rules.specs.Refusals.{Said, says, refuses}
use Rattle.rules.specs.declared.AtLimit.{AtLimit}
use Rattle.rules.specs.declared.Entry.{Entry}
use Rattle.rules.specs.declared.Family.{Family}
use Rattle.rules.specs.declared.Family.TheVariants as family
use Rattle.rules.specs.declared.FixFields.{FixFields}
use Rattle.rules.specs.declared.Layout.{Layout}
use Rattle.byte_sweep.specs.Plain.{is_mild, every}
use Rattle.rules.proofs.Inverse.{and_inv, or_inv}
use Rattle.byte_sweep.proofs.Laws.{mild_valid}
use Rattle.check_sure.specs.Sure.{rule_of, keeps_as, pattern_of, keeps_pattern, below_time, time_of, fields_time, sure_time}

-- ---- the shape

mild_shaped : (start : ℕ) (layout : Layout) (l : List ℕ) → length l ≡ line_length start layout → every is_mild l ≡ true → shaped_by start layout l ≡ says tt
unfolding shaped_by shaped is_sized characters
mild_shaped start layout l n e = rw (← n, le-leb (length l) (length l) (omega arith), mild_valid l e)

-- ---- a pattern that is kept

-- what a test of texts asks of a column, told as `rule_of` tells it, and a text held against that
abbrev held : (List ℕ → Bool) → List ℕ → Bool
held test t =
    let rule : ℕ = cond (test (65 ∷ [])) 0 (cond (test (45 ∷ 48 ∷ [])) 2 1) in
    cond (eqb rule 0) true (keeps_sign (eqb rule 2) t)

held_sign : (b : Bool) (t : List ℕ) → held (keeps_sign b) t ≡ keeps_sign b t
unfolding keeps_sign is_digits leads is_digit
held_sign true t = refl
held_sign false t = refl

abbrev rule : Option ℕ → List ℕ → Bool
rule o t = given o true λ n. keeps_sign (get_or listed n unlisted).sign t

held_rule : (o : Option ℕ) (t : List ℕ) → held (rule o) t ≡ rule o t
held_rule None t = refl
held_rule (Some n) t = held_sign (get_or listed n unlisted).sign t

-- what a column must hold is the rule of its code
as_rule : (x : ℕ) (t : List ℕ) → keeps_as (rule_of x) t ≡ keeps_rule x t
unfolding keeps_as rule_of keeps_rule
as_rule x t = held_rule (listed_number x) t

-- a column that breaks its code's own rule: away from the limits there is no other
abbrev bad : List ℕ → Entry → Bool
bad l e = not (keeps_rule e.code (column_text l (span_of e)))

none_by_pattern : (l : List ℕ) (es : List Entry) (n : ℕ) → keeps_pattern l (pattern_of es) ≡ true → first_of (bad l) (λ k e. e.first) es n ≡ None
unfolding first_of keeps_pattern pattern_of
none_by_pattern l [] n h = refl
none_by_pattern l (e ∷ es) n h =
    let s = and_inv (keeps_as (rule_of e.code) (part (byte e.first) e.last l)) _ h in
    rw (sym (as_rule e.code (column_text l (span_of e))) ∙ s.0) (none_by_pattern l es (suc n) s.1)

-- ---- columns of digits alone

digits_drop : (n : ℕ) (l : List ℕ) → is_digits l ≡ true → is_digits (drop n l) ≡ true
unfolding is_digits leads
digits_drop zero l e = e
digits_drop (suc n) [] e = refl
digits_drop (suc n) (b ∷ l) e = digits_drop n l (and_inv (is_digit b) (leads is_digit (length l) l) e).1

digits_take : (n : ℕ) (l : List ℕ) → is_digits l ≡ true → is_digits (take n l) ≡ true
unfolding is_digits leads
digits_take zero l e = refl
digits_take (suc n) [] e = refl
digits_take (suc n) (b ∷ l) e = let s = and_inv (is_digit b) (leads is_digit (length l) l) e in rw s.0 (digits_take n l s.1)

rule_by : (o : Option ℕ) (t : List ℕ) → is_digits t ≡ true → rule o t ≡ true
unfolding keeps_sign
rule_by (Some n) t e = rw e
rule_by None t e = refl

digits_rule : (x : ℕ) (t : List ℕ) → is_digits t ≡ true → keeps_rule x t ≡ true
unfolding keeps_rule
digits_rule x t e = rule_by (listed_number x) t e

-- a test that was needed was passed
pub need_said : {A : Type 0} (t : Bool) (x : Said A) (f : Unit {0} → Said A) → is_said x ≡ false → is_said (need t x f) ≡ true → (t ≡ true) × (is_said (f tt) ≡ true)
need_said true x f n e = (refl, e)
need_said false x f n e = let z : ◌≡◌ {A = ℕ} 0 1 = cc in absurd (omega arith)

module _ (l : List ℕ) (least : ℕ) (one : 1 ≤ least) (d : is_digits (drop (byte least) l) ≡ true) where
  column_digits : (e : Entry) → least ≤ e.first → keeps_rule e.code (column_text l (span_of e)) ≡ true
  column_digits e h =
      let n : (least - 1) + (e.first - least) ≡ e.first - 1 = omega arith in
      let q : drop (e.first - least) (drop (least - 1) l) ≡ drop (e.first - 1) l = drop-drop (e.first - least) (least - 1) l ∙ ap (λ (k : ℕ). drop k l) n in
      digits_rule e.code _ (digits_take (e.last - (e.first - 1)) (drop (e.first - 1) l) (rw q at (digits_drop (e.first - least) (drop (least - 1) l) d)))

  none_by_digits : (es : List Entry) (start : ℕ) (before : Layout) (n : ℕ) → least ≤ start → all_placed es start before ≡ true → first_of (bad l) (λ k e. e.first) es n ≡ None
  unfolding first_of all_placed placed
  none_by_digits [] start before n h a = refl
  none_by_digits (e ∷ es) start before n h a =
      let s = and_inv (is_spelt e && is_said (placed start before e 0)) (all_placed es (e.last + 1) (with_entry before e)) a in
      let p = need_said (eqb e.first start) _ _ refl (and_inv (is_spelt e) (is_said (placed start before e 0)) s.0).1 in
      let q = need_said (leb e.first e.last) _ _ refl p.1 in
      let first : e.first ≡ start = eqb-true e.first start p.0 in
      let last : e.first ≤ e.last = leb-true e.first e.last q.0 in
      rw (column_digits e (omega arith)) (none_by_digits es (e.last + 1) (with_entry before e) (suc n) (omega arith) s.1)

-- the columns of a line with no coordinate at its limit keep their rules
columns_said_lem : (f : Family) (l : List ℕ) (layout : Layout) → allowed (first_start f) layout ≡ true → (is_digits (drop (byte (first_start f)) l) || keeps_pattern l (pattern_of (entries_of layout))) ≡ true
    → columns off_limit l layout ≡ says tt
unfolding columns bad_column keeps_limit is_past allowed
columns_said_lem f l layout a e =
    let p = (and_inv (leb layout.count 13) _ (and_inv _ _ a).0).1 in
    let none : first_of (bad l) (λ k x. x.first) (entries_of layout) 0 ≡ None =
    or_inv (is_digits (drop (byte (first_start f)) l)) _ e (λ d. none_by_digits l (first_start f) (least f) d (entries_of layout) (first_start f) _ 0 (omega arith) p) (none_by_pattern l (entries_of layout) 0) in
    rw none
  where
    least : (f : Family) → 1 ≤ first_start f
    least family.B = omega arith
    least (family.Extra e) = omega arith

-- ---- the whole line

-- the parts of a chain that came to a value
need_some : {A : Type 0} (t : Bool) (f : Unit {0} → Option A) (v : A) → need t None f ≡ Some v → (t ≡ true) × (f tt ≡ Some v)
need_some true f v e = (refl, e)
need_some false f v e = let z : ◌≡◌ {A = ℕ} 0 1 = cc in absurd (omega arith)

pub record SureParts (f : Family) (l : List ℕ) (size : ℕ) (pattern : List ℕ) (t : ℕ) : Type 0 where
  pub long : length l ≡ size
  pub mild : every is_mild l ≡ true
  pub fields : fields_time f l ≡ Some t
  pub columns : (is_digits (drop (byte (first_start f)) l) || keeps_pattern l pattern) ≡ true

given_parts : (o : Option ℕ) (c : Bool) (t : ℕ) → (given o None λ s. need c None λ _. Some s) ≡ Some t → (o ≡ Some t) × (c ≡ true)
given_parts None c t e = let z : ◌≡◌ {A = ℕ} 0 1 = cc in absurd (omega arith)
given_parts (Some s) true t e = (e, refl)
given_parts (Some s) false t e = let z : ◌≡◌ {A = ℕ} 0 1 = cc in absurd (omega arith)

pub parts : (f : Family) (l : List ℕ) (size : ℕ) (pattern : List ℕ) (t : ℕ) → sure_time f l size pattern ≡ Some t → SureParts f l size pattern t
unfolding sure_time
parts f l size pattern t e =
    let a = need_some (eqb (length l) size) _ t e in
    let b = need_some (every is_mild l) _ t a.1 in
    let c = given_parts (fields_time f l) _ t b.1 in
    record { long = eqb-true (length l) size a.0; mild = b.0; fields = c.0; columns = c.1 }

-- a fix of this time is read, with no coordinate at its limit
record FieldsTimed (s : Said FixFields) (t : ℕ) : Type 0 where
  fix : FixFields
  read : s ≡ says fix
  time : fix.time ≡ t
  off : at_limit fix ≡ off_limit

limits : (a b : AtLimit) → a.lat ≡ b.lat → a.lon ≡ b.lon → a ≡ b
limits a b e f = ap (λ (x : Bool). record { lat = x; lon = a.lon }) e ∙ ap (λ (y : Bool). record { lat = b.lat; lon = y }) f

fields_timed : (s : Said FixFields) (t : ℕ) → time_of s ≡ Some t → FieldsTimed s t
unfolding below_time
fields_timed (says f) t e =
    let a = need_some (not (at_limit f).lat) _ t e in
    let b = need_some (not (at_limit f).lon) _ t a.1 in
    let same : Some f.time ≡ Some t = b.1 in
    record { fix = f; read = refl; time = cc; off = limits (at_limit f) off_limit (not-true (at_limit f).lat a.0) (not-true (at_limit f).lon b.0) }
fields_timed (refuses n l b) t e = let z : ◌≡◌ {A = ℕ} 0 1 = cc in absurd (omega arith)

fix_said_lem : (layout : Layout) (l : List ℕ) (f : FixFields) → shaped_by (first_start family.B) layout l ≡ says tt → fix_fields l ≡ says f → at_limit f ≡ off_limit → columns off_limit l layout ≡ says tt → b_line layout l ≡ says f
unfolding b_line
fix_said_lem layout l f s r o c = rw (s, r, o, c)

-- a line of a family is read with its time
pub sure_columned : (f : Family) (layout : Layout) (l : List ℕ) (t : ℕ) → allowed (first_start f) layout ≡ true → SureParts f l (line_length (first_start f) layout) (pattern_of (entries_of layout)) t
    → columned_line f layout l ≡ says t
unfolding columned_line extra_line fields_time
sure_columned family.B layout l t a p =
    let f = fields_timed (fix_fields l) t p.fields in
    rw (fix_said_lem layout l f.fix (mild_shaped (first_start family.B) layout l p.long p.mild) f.read f.off (columns_said_lem family.B l layout a p.columns), f.time)
sure_columned (family.Extra e) layout l t a p = rw (mild_shaped 8 layout l p.long p.mild, p.fields, columns_said_lem (family.Extra e) l layout a p.columns)
