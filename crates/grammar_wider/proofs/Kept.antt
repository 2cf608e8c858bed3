-- What added columns leave as it is, whatever a file says: the lines without columns; how many lines there are more; the old bits of the presence word. Assumes nothing.
use Rattle.std.specs.Prelude.{None, Some}
use Prim.Native.Nat.{ℕ, suc, ◌+◌, ◌-◌, ◌<◌}
use mathlib.Core.Bool.{Bool, true, false, not, ◌&&◌, cond}
use mathlib.Core.List.{List, [], ◌∷◌}
use mathlib.Core.Path.{◌≡◌, refl, sym, ap, ◌∙◌}
use native.Mathlib.Nat.{add-mul}
use native.Mathlib.Omega.{arith}
use lib.ListN.{length, get_or, take}
use lib.Seq.{get_or-take}
use Rattle.rules.specs.Listed.{listed}
use Rattle.rules.specs.Layouts.{look, carries, bit, word_from, presence_of, presence_said}
use Rattle.rules.specs.Lines.{kind_of}
use Rattle.rules.specs.Roles.{role_of, is_of}
use Rattle.rules.specs.Split.{Lines, end, broken, line}
use Rattle.rules.specs.declared.Layout.{Layout}
use Rattle.rules.specs.declared.Listed.{Listed}
use Rattle.rules.specs.declared.Kind.{Kind}
use Rattle.rules.specs.declared.Family.{Family}
use Rattle.rules.specs.declared.Layouts.{Layouts}
use Rattle.rules.specs.declared.Role.TheVariants as role
use Rattle.rules.proofs.Inverse.{none_some, false_true, given_inv}
use Rattle.rules_laws.proofs.Splitting.{texts_of}
use Rattle.rules_laws.proofs.Passing.{role_in}
use Rattle.rules_laws.proofs.Counted.{one, tally}
use Rattle.rules_values.proofs.Presence.{set_bits, count_bits}
use Rattle.grammar_wider.specs.Wider.{Extends, width_in, AfterLayouts, done, same, columned, LayoutLines, all, without, changed, put, Wider, front, from}
use Rattle.grammar_wider.specs.Before.{lines_with, lines_of_family, added_from, added_in, MoreBits, put_into, put_in}
use Rattle.rules_sound.proofs.Families.{line_role}
use Rattle.rules_sound.proofs.Placed.{Sound}
use Rattle.rules_sound.proofs.Columns.{carried_there, each_at}
use Rattle.grammar_wider.proofs.Families.{first_byte}
use Rattle.grammar_wider.proofs.Changing.{told_role}

-- ---- the lines without columns

first_same : (n : ℕ) (l l' : List ℕ) → 0 < n → take n l' ≡ take n l → get_or l' 0 0 ≡ get_or l 0 0
first_same n l l' p e = sym (get_or-take n l' 0 0 p) ∙ ap (λ (x : List ℕ). get_or x 0 0) e ∙ get_or-take n l 0 0 p

module _ (test : Kind → Bool) (no_layout : (k : Kind) (g : Family) → role_of k ≡ role.Tells g → test k ≡ false)
    (no_column : (k : Kind) (g : Family) → role_of k ≡ role.Columned g → test k ≡ false) where
  -- a line of a kind that is not asked for
  skip : (t : List ℕ) (ls : Lines) → test (kind_of (get_or t 0 0)) ≡ false → lines_with test (line t ls) ≡ lines_with test ls
  skip t ls n = rw n

  -- a line that stays
  keep : (t : List ℕ) (ls ls' : Lines) → lines_with test ls' ≡ lines_with test ls → lines_with test (line t ls') ≡ lines_with test (line t ls)
  keep t ls ls' e = ap (λ (r : List (List ℕ)). cond (test (kind_of (get_or t 0 0))) (t ∷ r) r) e

  body_others : {old new : Layouts} {ls ls' : Lines} → AfterLayouts old new ls ls' → lines_with test ls' ≡ lines_with test ls
  body_others done = refl
  body_others (same {t = t} {ls = ls} {ls' = ls'} x b) = keep t ls ls' (body_others b)
  body_others (columned {t = t} {t' = t'} {ls = ls} {ls' = ls'} f x w b) =
      skip t' ls' (no_column _ f (line_role f _ (first_same _ t t' (first_byte f) w.fields ∙ x))) ∙ body_others b ∙ sym (skip t ls (no_column _ f (line_role f _ x)))

  layouts_others : {fs : List Family} {old new : Layouts} {ls ls' : Lines} → LayoutLines fs old new ls ls' → lines_with test ls' ≡ lines_with test ls
  layouts_others (all b) = body_others b
  layouts_others (without r) = layouts_others r
  layouts_others (changed {f = f} {t = t} {t' = t'} {ls = ls} {ls' = ls'} e e' x r) =
      skip t' ls' (no_layout _ f (told_role f t' _ e')) ∙ layouts_others r ∙ sym (skip t ls (no_layout _ f (told_role f t _ e)))
  layouts_others (put {f = f} {t' = t'} {ls' = ls'} e' r) = skip t' ls' (no_layout _ f (told_role f t' _ e')) ∙ layouts_others r

  pub others_same : {ls ls' : Lines} → Wider ls ls' → lines_with test ls' ≡ lines_with test ls
  others_same (front {t = t} {ls = ls} {ls' = ls'} x w) = keep t ls ls' (others_same w)
  others_same (from r) = layouts_others r

-- ---- the count of lines

body_count : {old new : Layouts} {ls ls' : Lines} → AfterLayouts old new ls ls' → length (texts_of ls') ≡ length (texts_of ls)
body_count done = refl
body_count (same x b) = ap suc (body_count b)
body_count (columned f x w b) = ap suc (body_count b)

layouts_count : {fs : List Family} {old new : Layouts} {ls ls' : Lines} (r : LayoutLines fs old new ls ls') → length (texts_of ls') ≡ length (texts_of ls) + put_into r
layouts_count (all b) = omega (arith, body_count b)
layouts_count (without r) = layouts_count r
layouts_count (changed e e' x r) = omega (arith, layouts_count r)
layouts_count (put e' r) = omega (arith, layouts_count r)

pub lines_more : {ls ls' : Lines} (w : Wider ls ls') → length (texts_of ls') ≡ length (texts_of ls) + put_in w
lines_more (front x w) = omega (arith, lines_more w)
lines_more (from r) = layouts_count r

-- as many lines of a family as were counted
pub family_tallied : (f : Family) (ls : Lines) → length (lines_of_family f ls) ≡ tally (is_of f) ls
family_tallied f end = refl
family_tallied f (broken b) = refl
family_tallied f (line t ls) = by (is_of f (role_in t)) (family_tallied f ls)
  where
    by : (b : Bool) → length (lines_of_family f ls) ≡ tally (is_of f) ls → length (cond b (t ∷ lines_of_family f ls) (lines_of_family f ls)) ≡ one b + tally (is_of f) ls
    by true r = omega arith
    by false r = omega arith

-- ---- the presence word

module _ (old new : Layout) (x : Extends old new) where
  -- what the old layout carries, the new one carries
  pub carried : (c : ℕ) → carries old c ≡ true → carries new c ≡ true
  unfolding carries width_in
  carried c h =
      let s = carried_there old c h in
      let t = each_at (λ c s. width_in new c ≡ width_in old c) old c s.0 x s.1 in
      rw (given_inv (look new c) None (Some (s.0.last + 1 - s.0.first)) _ none_some (t ∙ rw s.1)).1

  -- the bit of a row is an old one or an added one
  new_bit : (r : Listed) → bit new r ≡ bit old r + cond (carries new r.code && not (carries old r.code)) 1 0
  new_bit r = by (carries old r.code) (carries new r.code) (carried r.code)
    where
      by : (a b : Bool) → (a ≡ true → b ≡ true) → ◌≡◌ {A = ℕ} (cond b 1 0) (cond a 1 0 + cond (b && not a) 1 0)
      by true true h = refl
      by true false h = absurd (false_true (h refl))
      by false true h = refl
      by false false h = refl

  more_bits : (rows : List Listed) (n : ℕ) → word_from new rows n ≡ word_from old rows n + added_from old new rows n
  unfolding word_from added_from
  more_bits [] n = refl
  more_bits (r ∷ rs) n = rw (new_bit r, add-mul, more_bits rs (suc n)) (omega arith)

  more_set : (rows : List Listed) → set_bits new rows ≡ set_bits old rows + added_in old new rows
  unfolding set_bits added_in
  more_set [] = refl
  more_set (r ∷ rs) = omega (arith, new_bit r, more_set rs)

  pub presence_more : Sound 36 old → Sound 36 new → MoreBits old new
  unfolding presence_said presence_of
  presence_more s s' = record {
    before = presence_of old;
    after = presence_of new;
    old_said = rw s.right;
    new_said = rw s'.right;
    word = more_bits listed 0;
    count = count_bits new listed ∙ more_set listed ∙ ap (λ n. n + added_in old new listed) (sym (count_bits old listed));
  }
