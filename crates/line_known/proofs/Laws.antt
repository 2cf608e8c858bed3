-- What `search` puts the ways out of a reader together from; what is said of a line where its layout is allowed, or is not; and an answer with its entries. Assumes nothing.
use Rattle.std.specs.Prelude.{Result, Ok, Err, ⊤}
use Prim.Native.Nat.{ℕ}
use mathlib.Core.Bool.{Bool, true, false}
use mathlib.Core.List.{List}
use mathlib.Core.Path.{◌≡◌, refl, sym, ◌∙◌, ap}
use borrow.Author.Tests.{eq-eqb, ne_eqb}
use lib.Dec.{eqb}
use lib.ListN.{get_or}
use Rattle.rules.specs.Families.{first_start}
use Rattle.rules.specs.Choice.{need}
use Rattle.rules.specs.Layouts.{empty_layout, allowed}
use Rattle.rules.specs.Fixes.{finer_of, fix_of}
use Rattle.rules.specs.Reads.{of_kind, by_layout, fields_said, fix_said, extra_said, with_entries, reading, Answer, answered}
use Rattle.rules.specs.Refusals.{Said, says, refuses, no, refusal, and_then, result_told}
use Rattle.rules.specs.declared.Extra.{Extra}
use Rattle.rules.specs.declared.Family.{Family}
use Rattle.rules.specs.declared.Family.TheVariants as family
use Rattle.rules.specs.declared.Finer.{Finer}
use Rattle.rules.specs.declared.Fix.{Fix}
use Rattle.rules.specs.declared.FixFields.{FixFields}
use Rattle.rules.specs.declared.Layout.{Layout}
use Rattle.rules.specs.declared.Reason.TheVariants.{BadValue}
use Rattle.rules.specs.declared.Refusal.{Refusal}
use Rattle.line_finer.specs.Within.{fix_within}
use Rattle.line_finer.proofs.Read.{read_within}
use Rattle.line_known.specs.Known.{fields_known, fix_known, extra_known}

-- the first byte r is the reader's letter, or another
pub kind_is : {A : Type 0} (m n r : ℕ) (x a : A) (f : Unit {0} → A) → r ≡ m → r ≡ n → x ≡ f tt → x ≡ need (eqb m n) a f
kind_is m n r x a f e h k = rw (eq-eqb m n (sym e ∙ h)) k

pub kind_is_not : {A : Type 0} (m n r : ℕ) (x a : A) (f : Unit {0} → A) → r ≡ m → (r ≡ n → ⊥) → x ≡ a → x ≡ need (eqb m n) a f
kind_is_not m n r x a f e h k = rw (ne_eqb m n (λ q. h (e ∙ q))) k

-- r is what was told of a test t that a line's kind is right, q what the code goes on with
module _ {A : Type 0} where
  pub kind_ok : (t : Bool) (a : Said A) (r : Result ⊤ Refusal) (v : ⊤) (x : Said A) (f : Unit {0} → Said A)
      → result_told r ≡ need t (no BadValue 0) (λ _. says tt) → r ≡ Ok v → x ≡ f tt → x ≡ need t a f
  unfolding result_told
  kind_ok true a r v x f e h k = k
  kind_ok false a r v x f e h k = let z : says v ≡ no BadValue 0 = rw h at e in cc

  pub kind_err : (t : Bool) (r : Result ⊤ Refusal) (w : Refusal) (f : Unit {0} → Said A)
      → result_told r ≡ need t (no BadValue 0) (λ _. says tt) → r ≡ Err w → refusal w ≡ need t (no BadValue 0) f
  unfolding result_told
  kind_err true r w f e h = let z : ◌≡◌ {A = Said ⊤} (refusal w) (says tt) = rw h at e in cc
  kind_err false r w f e h = let z : ◌≡◌ {A = Said ⊤} (refusal w) (no BadValue 0) = rw h at e in ap (λ s. and_then s f) z

pub ruleset kinds = (kind_ok, kind_err)

-- both ways of a test are the same
both : {A : Type 0} (t : Bool) (a : A) → a ≡ need t a (λ _. a)
both true a = refl
both false a = refl

-- the fix that was made by the layout's columns of finer digits
pub made_by : (l : List ℕ) (layout : Layout) (fine : Finer) (f : FixFields) (x : Fix) → x ≡ fix_within l fine f → fine ≡ finer_of layout → x ≡ fix_within l (finer_of layout) f
made_by l layout fine f x e g = rw (← g) e

-- ---- where the layout is allowed, or is not

-- two makings of what is said, alike wherever it is said
then_same : {A B : Type 0} (s : Said A) (f g : A → B) → ((v : A) → s ≡ says v → f v ≡ g v) → (and_then s λ v. says (f v)) ≡ (and_then s λ v. says (g v))
then_same (says v) f g h = ap says (h v refl)
then_same (refuses n l b) f g h = refl

module _ {A : Type 0} (l : List ℕ) (letter : ℕ) (layout : Layout) (f : Family) (g : Unit {0} → Said A) where
  with_allowed : allowed (first_start f) layout ≡ true → of_kind letter l g ≡ of_kind letter l λ _. by_layout f layout g
  with_allowed h = rw h

  with_not_allowed : allowed (first_start f) layout ≡ false → no BadValue 0 ≡ of_kind letter l λ _. by_layout f layout g
  with_not_allowed h = rw h (both (eqb (get_or l 0 0) letter) (no BadValue 0))

module _ (l : List ℕ) (layout : Layout) where
  fields_allowed : allowed (first_start family.B) layout ≡ true → fields_known l layout ≡ fields_said family.B l layout
  unfolding fields_known
  fields_allowed h = with_allowed l _ layout family.B _ h

  pub fix_allowed : allowed (first_start family.B) layout ≡ true → fix_known l layout ≡ fix_said l layout
  unfolding fix_known fix_said
  fix_allowed h =
      ap (λ s. and_then s λ f. says (fix_within l (finer_of layout) f)) (fields_allowed h)
      ∙ then_same (fields_said family.B l layout) (fix_within l (finer_of layout)) (fix_of l (finer_of layout)) (read_within l layout)

  fix_not_allowed : allowed (first_start family.B) layout ≡ false → no BadValue 0 ≡ fix_said l layout
  unfolding fix_said
  fix_not_allowed h = ap (λ s. and_then s λ f. says (fix_of l (finer_of layout) f)) (with_not_allowed l _ layout family.B _ h)

  pub extra_allowed : (e : Extra) → allowed (first_start (family.Extra e)) layout ≡ true → extra_known e l layout ≡ extra_said e l layout
  unfolding extra_known extra_said
  extra_allowed e h = with_allowed l _ layout (family.Extra e) _ h

  extra_not_allowed : (e : Extra) → allowed (first_start (family.Extra e)) layout ≡ false → no BadValue 0 ≡ extra_said e l layout
  unfolding extra_said
  extra_not_allowed e h = with_not_allowed l _ layout (family.Extra e) _ h

  -- ---- and so of the whole reading

  pub fix_read : allowed (first_start family.B) layout ≡ true → with_entries layout (fix_known l layout) ≡ reading family.B l layout
  unfolding reading fix_said
  fix_read h = ap (with_entries layout) (fix_allowed h)

  pub fix_not_read : allowed (first_start family.B) layout ≡ false → no BadValue 0 ≡ reading family.B l layout
  unfolding reading fix_said
  fix_not_read h = ap (with_entries layout) (fix_not_allowed h)

  pub extra_read : (e : Extra) → allowed (first_start (family.Extra e)) layout ≡ true → with_entries layout (extra_known e l layout) ≡ reading (family.Extra e) l layout
  unfolding reading extra_said
  extra_read e h = ap (with_entries layout) (extra_allowed e h)

  pub extra_not_read : (e : Extra) → allowed (first_start (family.Extra e)) layout ≡ false → no BadValue 0 ≡ reading (family.Extra e) l layout
  unfolding reading extra_said
  extra_not_read e h = ap (with_entries layout) (extra_not_allowed e h)
