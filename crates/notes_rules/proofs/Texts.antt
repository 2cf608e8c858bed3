-- Texts are in order: of any two one comes first, and two that come after none of each other are the same. Assumes nothing.
use Prim.Native.Nat.{ℕ, ◌<◌}
use mathlib.Core.Bool.{true, false}
use mathlib.Core.List.{List, [], ◌∷◌, ◌++◌}
use mathlib.Core.Logic.{◌⊎◌, inl, inr}
use mathlib.Core.Path.{◌≡◌, refl}
use native.Mathlib.Omega.{arith}
use borrow.Author.Tests.{lt-ltb, le-ltb, ltb-true, ltb-false}
use lib.Dec.{ltb}
use Rattle.rules.proofs.Inverse.{by_bool}
use Rattle.notes_sorted.specs.Sorted.{Total}
use Rattle.notes_sorted.proofs.Sorting.{clash}
use Rattle.notes_rules.specs.Notes.{not_after}

pub text_total : (x y : List ℕ) → not_after x y ≡ false → not_after y x ≡ true
text_total [] y e = clash refl e
text_total (a ∷ x) [] e = refl
text_total (a ∷ x) (b ∷ y) e =
    by_bool (ltb a b) (λ f. clash refl (rw f at e)) (λ f.
    by_bool (ltb b a) (λ g. rw g) (λ g. rw (g, f) (text_total x y (rw (f, g) at e))))

-- how a text does not come after another
text_inv : (a b : ℕ) (x y : List ℕ) → not_after (a ∷ x) (b ∷ y) ≡ true → (a < b) ⊎ ((a ≡ b) × (not_after x y ≡ true))
text_inv a b x y e =
    by_bool (ltb a b) (λ f. inl (ltb-true a b f)) (λ f.
    by_bool (ltb b a) (λ g. clash (rw (f, g) at e) refl) (λ g. inr (omega (arith, ltb-false a b f, ltb-false b a g), rw (f, g) at e)))

text_less : (a b : ℕ) (x y : List ℕ) → a < b → not_after (a ∷ x) (b ∷ y) ≡ true
text_less a b x y h = rw (lt-ltb a b h)

text_same : (a b : ℕ) (x y : List ℕ) → a ≡ b → not_after x y ≡ true → not_after (a ∷ x) (b ∷ y) ≡ true
text_same a b x y h e = rw (le-ltb a b (omega arith), le-ltb b a (omega arith)) e

pub text_trans : (x y z : List ℕ) → not_after x y ≡ true → not_after y z ≡ true → not_after x z ≡ true
text_trans [] y z e f = refl
text_trans (a ∷ x) [] z e f = clash e refl
text_trans (a ∷ x) (b ∷ y) [] e f = clash f refl
text_trans (a ∷ x) (b ∷ y) (c ∷ z) e f = go (text_inv a b x y e) (text_inv b c y z f) (text_trans x y z)
  where
    go : (a < b) ⊎ ((a ≡ b) × (not_after x y ≡ true)) → (b < c) ⊎ ((b ≡ c) × (not_after y z ≡ true)) → (not_after x y ≡ true → not_after y z ≡ true → not_after x z ≡ true)
        → not_after (a ∷ x) (c ∷ z) ≡ true
    go (inl h) (inl k) ih = text_less a c x z (omega arith)
    go (inl h) (inr k) ih = text_less a c x z (omega (arith, k.0))
    go (inr h) (inl k) ih = text_less a c x z (omega (arith, h.0))
    go (inr h) (inr k) ih = text_same a c x z (omega (arith, h.0, k.0)) (ih h.1 k.1)

text_antisym : (x y : List ℕ) → not_after x y ≡ true → not_after y x ≡ true → x ≡ y
text_antisym [] [] e f = refl
text_antisym [] (b ∷ y) e f = clash f refl
text_antisym (a ∷ x) [] e f = clash e refl
text_antisym (a ∷ x) (b ∷ y) e f = go (text_inv a b x y e) (text_inv b a y x f) (text_antisym x y)
  where
    go : (a < b) ⊎ ((a ≡ b) × (not_after x y ≡ true)) → (b < a) ⊎ ((b ≡ a) × (not_after y x ≡ true)) → (not_after x y ≡ true → not_after y x ≡ true → x ≡ y) → ◌≡◌ {A = List ℕ} (a ∷ x) (b ∷ y)
    go (inl h) (inl k) ih = absurd (omega arith)
    go (inl h) (inr k) ih = absurd (omega (arith, k.0))
    go (inr h) (inl k) ih = absurd (omega (arith, h.0))
    go (inr h) (inr k) ih = let d : a ≡ b = h.0 in let r : x ≡ y = ih h.1 k.1 in cc

pub texts : Total not_after
texts = record { total = text_total; trans = text_trans; antisym = text_antisym }

-- ---- what the order means

-- "a line that begins another coming first"
pub beginning_first : (x y : List ℕ) (b : ℕ) → (not_after x (x ++ b ∷ y) ≡ true) × (not_after (x ++ b ∷ y) x ≡ false)
beginning_first [] y b = (refl, refl)
beginning_first (a ∷ x) y b = let r = beginning_first x y b in let e = le-ltb a a (omega arith) in (rw e r.0, rw e r.1)

-- "ascending byte order": the first byte that differs decides
pub byte_decides : (x y z : List ℕ) (a b : ℕ) → a < b → (not_after (x ++ a ∷ y) (x ++ b ∷ z) ≡ true) × (not_after (x ++ b ∷ z) (x ++ a ∷ y) ≡ false)
byte_decides [] y z a b h = (rw (lt-ltb a b h), rw (le-ltb b a (omega arith), lt-ltb a b h))
byte_decides (c ∷ x) y z a b h = let r = byte_decides x y z a b h in let e = le-ltb c c (omega arith) in (rw e r.0, rw e r.1)
