-- The outermost of some numbers by its meaning, for every order: it is one of them, none lies further out, and no other number is so; and of three it is one, however they are
-- taken in pairs. Then the two orders, upwards and downwards. Assumes nothing.
use mathlib.Core.Bool.{Bool, true, false, not}
use mathlib.Core.List.{List, [], ◌∷◌}
use mathlib.Core.Logic.{◌⊎◌, inl, inr}
use mathlib.Core.Path.{◌≡◌, refl, sym, ap, ◌∙◌, subst}
use native.Mathlib.Nat.{le_of_lt}
use native.Mathlib.Omega.{arith}
use borrow.Author.Tests.{ltb-true, ltb-false, le-ltb}
use lib.Dec.{T}
use lib.IntN.{ℤ, pos, negsuc}
use lib.Signed.{lt_z, ◌≤ℤ◌, ◌<ℤ◌, ≤ℤ_refl, lt_z_no, lt_z_yes, <ℤ-≤ℤ_trans, clash_ℤ}
use Rattle.rules.specs.Choice.{Each}
use Rattle.rules.proofs.Inverse.{false_true, by_bool}
use Rattle.summary_span.specs.Extremes.{OneOf, outer, outmost_from, outmost, Outmost, above, below}

-- an order of all numbers
pub record Order (past : ℤ → ℤ → Bool) : Type 0 where
  pub itself : (a : ℤ) → past a a ≡ false
  pub one_way : (a b : ℤ) → past a b ≡ true → past b a ≡ false
  pub further : (a b c : ℤ) → past b a ≡ false → past c b ≡ false → past c a ≡ false
  pub equal : (a b : ℤ) → past a b ≡ false → past b a ≡ false → a ≡ b

module _ (past : ℤ → ℤ → Bool) (o : Order past) where
  -- ---- the one further out of two

  outer_one : (a b : ℤ) → (outer past a b ≡ a) ⊎ (outer past a b ≡ b)
  outer_one a b = by_bool (past a b) (λ e. inr (rw e)) (λ e. inl (rw e))

  outer_past : (a b : ℤ) → (past (outer past a b) a ≡ false) × (past (outer past a b) b ≡ false)
  outer_past a b = by_bool (past a b) (λ e. rw e (o.one_way a b e, o.itself b)) (λ e. rw e (o.itself a, e))

  pub outer_thrice : (a b c : ℤ) → outer past (outer past a b) c ≡ outer past a (outer past b c)
  outer_thrice a b c = by (past a b) refl (past b c) refl
    where
      by : (x : Bool) → past a b ≡ x → (y : Bool) → past b c ≡ y → outer past (outer past a b) c ≡ outer past a (outer past b c)
      by true e true f = by_bool (past a c) (λ g. rw (e, f, g)) (λ g. absurd (false_true (sym (o.further b c a (o.one_way b c f) g) ∙ e)))
      by true e false f = rw (e, f, e)
      by false e true f = rw (e, f)
      by false e false f = rw (e, f, e, o.further c b a f e)

  -- ---- of a list

  swapped : (x a b p : ℤ) (zs : List ℤ) → OneOf x (p ∷ zs) → (p ≡ a) ⊎ (p ≡ b) → OneOf x (a ∷ b ∷ zs)
  swapped x a b p zs (inl e) (inl f) = inl (e ∙ f)
  swapped x a b p zs (inl e) (inr f) = inr (inl (e ∙ f))
  swapped x a b p zs (inr e) f = inr (inr e)

  from_one : (a : ℤ) (zs : List ℤ) → OneOf (outmost_from past a zs) (a ∷ zs)
  from_one a [] = inl refl
  from_one a (z ∷ zs) = swapped _ a z (outer past a z) zs (from_one (outer past a z) zs) (outer_one a z)

  from_none : (a : ℤ) (zs : List ℤ) → Each (λ (y : ℤ). past (outmost_from past a zs) y ≡ false) (a ∷ zs)
  from_none a [] = (o.itself a, tt)
  from_none a (z ∷ zs) =
      let m = from_none (outer past a z) zs in
      let p = outer_past a z in
      (o.further a _ _ p.0 m.0, (o.further z _ _ p.1 m.0, m.1))

  pub outmost_is : (z : ℤ) (zs : List ℤ) → Outmost past (outmost past (z ∷ zs)) (z ∷ zs)
  outmost_is z zs = record { one = from_one z zs; none = from_none z zs }

  each_one : (P : ℤ → Type 0) (x : ℤ) (zs : List ℤ) → Each P zs → OneOf x zs → P x
  each_one P x [] h m = absurd m
  each_one P x (z ∷ zs) h (inl e) = subst P (sym e) h.0
  each_one P x (z ∷ zs) h (inr m) = each_one P x zs h.1 m

  pub outmost_only : (x y : ℤ) (zs : List ℤ) → Outmost past x zs → Outmost past y zs → x ≡ y
  outmost_only x y zs p q = o.equal x y (each_one (λ (z : ℤ). past x z ≡ false) y zs p.none q.one) (each_one (λ (z : ℤ). past y z ≡ false) x zs q.none p.one)

-- ---- upwards and downwards

is_lt : (a b : ℤ) → lt_z a b ≡ true → a <ℤ b
is_lt a b e = lt_z_yes {a = a} {b = b} (subst T (sym e) tt)

not_lt : (a b : ℤ) → lt_z a b ≡ false → b ≤ℤ a
not_lt a b e = lt_z_no {a = a} {b = b} (subst (λ (t : Bool). T (not t)) (sym e) tt)

itself : (a : ℤ) → lt_z a a ≡ false
itself a = by_bool (lt_z a a) (λ t. clash_ℤ (is_lt a a t) (≤ℤ_refl a)) (λ t. t)

one_way : (a b : ℤ) → lt_z a b ≡ true → lt_z b a ≡ false
one_way (pos a) (pos b) e = le-ltb b a (le_of_lt (ltb-true a b e))
one_way (pos a) (negsuc b) e = absurd (false_true e)
one_way (negsuc a) (pos b) e = refl
one_way (negsuc a) (negsuc b) e = le-ltb a b (le_of_lt (ltb-true b a e))

further : (a b c : ℤ) → lt_z b a ≡ false → lt_z c b ≡ false → lt_z c a ≡ false
further a b c e f = by_bool (lt_z c a) (λ t. clash_ℤ (<ℤ-≤ℤ_trans (is_lt c a t) (not_lt b a e)) (not_lt c b f)) (λ t. t)

equal : (a b : ℤ) → lt_z a b ≡ false → lt_z b a ≡ false → a ≡ b
equal (pos a) (pos b) e f = ap pos (omega (arith, ltb-false a b e, ltb-false b a f))
equal (pos a) (negsuc b) e f = absurd (false_true (sym f))
equal (negsuc a) (pos b) e f = absurd (false_true (sym e))
equal (negsuc a) (negsuc b) e f = ap negsuc (omega (arith, ltb-false b a e, ltb-false a b f))

pub upwards : Order above
upwards = record { itself = itself; one_way = one_way; further = further; equal = equal }

pub downwards : Order below
downwards = record { itself = itself; one_way = λ a b e. one_way b a e; further = λ a b c e f. further c b a f e; equal = λ a b e f. equal a b f e }
