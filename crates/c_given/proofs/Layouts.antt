-- A layout given as its line: what the readers go on with, or 17. And K or N, by a letter. Assumes nothing.
use Rattle.std.specs.Prelude.{Err, None, Ok, Option, Some, Result}
use Prim.Native.Nat.{ℕ}
use native.Mathlib.Omega.{arith}
use mathlib.Core.Bool.{Bool, true, false, cond}
use mathlib.Core.List.{List}
use mathlib.Core.Path.{◌≡◌, refl, sym, ap, ◌∙◌}
use lib.Dec.{eqb}
use lib.ListN.{length}
use borrow.Author.Tests.{eq-eqb, ne_eqb}
use Rattle.rules.specs.Families.{first_start, family_of}
use Rattle.rules.specs.Layouts.{LayoutTold, empty_layout, allowed}
use Rattle.rules.specs.Promises.{LayoutGiven}
use Rattle.rules.specs.Reads.{layout_said}
use Rattle.rules.specs.Refusals.{Said, says, refuses, no, refusal, and_then, result_told}
use Rattle.rules.specs.declared.Extra.{Extra}
use Rattle.rules.specs.declared.Family.{Family}
use Rattle.rules.specs.declared.Family.TheVariants as family
use Rattle.rules.specs.declared.Layout.{Layout}
use Rattle.rules.specs.declared.Reason.TheVariants.{BadValue}
use Rattle.rules.specs.declared.Refusal.{Refusal}
use Rattle.rules.proofs.Links.{then_ok}
use Rattle.rules_sound.proofs.Placed.{sound_line, sound_empty}
use Rattle.c_given.specs.Given.{or_bad_value, layout_by, extra_of}

says_one : {A : Type 0} {v w : A} → says v ≡ says w → v ≡ w
says_one e = cc

-- ---- the line that is given

good_stays : (s : Said Layout) (r : Result Layout Refusal) (v : Layout) → LayoutTold s r → r ≡ Ok v → LayoutTold (or_bad_value s) (Ok v)
unfolding result_told
good_stays (says w) r v t e = rw e at t
good_stays (refuses n l b) r v t e = let h : says v ≡ refuses n l b = rw e at t in cc

bad_value : (s : Said Layout) (r : Result Layout Refusal) (w x : Refusal) → LayoutTold s r → r ≡ Err w → refusal {A = Layout} x ≡ no BadValue 0 → LayoutTold (or_bad_value s) (Err x)
unfolding result_told
bad_value (refuses n l b) r w x t e h = h
bad_value (says v) r w x t e h = let g : refusal w ≡ says v = rw e at t in cc

module _ (f : Family) (l : List ℕ) where
  pub no_line : (e : Layout) → length l ≡ 0 → e ≡ empty_layout → LayoutTold (layout_by f l) (Ok e)
  unfolding layout_by result_told
  no_line e h g = rw (eq-eqb (length l) 0 h) (ap says g)

  pub line_read : (r : Result Layout Refusal) (v : Layout) → (length l ≡ 0 → ⊥) → LayoutGiven f l r → r ≡ Ok v → LayoutTold (layout_by f l) (Ok v)
  unfolding layout_by
  line_read r v h t e = rw (ne_eqb (length l) 0 h) (good_stays _ r v t e)

  pub line_refused : (r : Result Layout Refusal) (w x : Refusal) → (length l ≡ 0 → ⊥) → LayoutGiven f l r → r ≡ Err w → refusal {A = Layout} x ≡ no BadValue 0 → LayoutTold (layout_by f l) (Err x)
  unfolding layout_by
  line_refused r w x h t e g = rw (ne_eqb (length l) 0 h) (bad_value _ r w x t e g)

-- ---- K or N, by the family r that a letter b tells

module _ (b : ℕ) (r : Option Family) (e : r ≡ family_of b) where
  pub extra_is : (f : Family) (x : Extra) → r ≡ Some f → f ≡ family.Extra x → extra_of b ≡ Some x
  unfolding extra_of
  extra_is f x h g = rw (← e, h, g)

  pub extra_is_not : (f : Family) → r ≡ Some f → f ≡ family.B → extra_of b ≡ None
  unfolding extra_of
  extra_is_not f h g = rw (← e, h, g)

  pub extra_none : r ≡ None → extra_of b ≡ None
  unfolding extra_of
  extra_none h = rw (← e, h)

-- ---- the layout that was read is allowed

-- what is allowed of each layout that a test chooses
allowed_by : (k : Family) (l : List ℕ) (v : Layout) (s : Said Layout) → layout_said k l ≡ s → (t : Bool) → cond t (says empty_layout) (or_bad_value s) ≡ says v → allowed (first_start k) v ≡ true
allowed_by k l v s q true e = rw (← says_one e) (sound_empty (first_start k)).right
allowed_by k l v (says w) q false e = rw (← says_one e) (sound_line k l w q).right
allowed_by k l v (refuses n m b) q false e = let z : ◌≡◌ {A = ℕ} 0 1 = cc in absurd (omega arith)

told_allowed : (k : Family) (l : List ℕ) (g : Result Layout Refusal) (v : Layout) → LayoutTold (layout_by k l) g → g ≡ Ok v → allowed (first_start k) v ≡ true
unfolding layout_by result_told
told_allowed k l g v t e = allowed_by k l v (layout_said k l) refl (eqb (length l) 0) (sym (rw e at t))

-- ---- what is said with the layout that was read

-- the same, where y is f of a layout that is known to be allowed
pub known_then : {B : Type 0} (k : Family) (l : List ℕ) (g : Result Layout Refusal) (v : Layout) (x y : Said B) (f : Layout → Said B) → LayoutTold (layout_by k l) g → g ≡ Ok v → x ≡ y
    → (allowed (first_start k) v ≡ true → y ≡ f v) → x ≡ and_then (layout_by k l) f
known_then k l g v x y f t e q same = then_ok (layout_by k l) g v x f t e (q ∙ same (told_allowed k l g v t e))
