-- What is so of each element of a list, and what a first finding says of the elements. Assumes nothing.
use Rattle.std.specs.Prelude.{None, Some}
use Prim.Native.Nat.{ℕ, suc}
use mathlib.Core.Bool.{Bool, true, false, cond}
use mathlib.Core.List.{List, [], ◌∷◌, ◌++◌}
use mathlib.Core.Path.{◌≡◌, refl, sym}
use Rattle.rules.specs.Choice.{first_of, Each}
use Rattle.rules.proofs.Inverse.{none_some}

module _ {A : Type 0} where
  pub each_map : {P Q : A → Type 0} (l : List A) → ((a : A) → P a → Q a) → Each P l → Each Q l
  each_map [] f h = tt
  each_map (a ∷ l) f h = (f a h.0, each_map l f h.1)

  pub each_both : (l : List A) (P Q : A → Type 0) → Each P l → Each Q l → Each (λ a. P a × Q a) l
  each_both [] P Q h g = tt
  each_both (a ∷ l) P Q h g = ((h.0, g.0), each_both l P Q h.1 g.1)

  pub each_join : (P : A → Type 0) (l r : List A) → Each P l → Each P r → Each P (l ++ r)
  each_join P [] r h g = g
  each_join P (a ∷ l) r h g = (h.0, each_join P l r h.1 g)

  pub each_cut : (P : A → Type 0) (l r : List A) → Each P (l ++ r) → Each P l × Each P r
  each_cut P [] r h = (tt, h)
  each_cut P (a ∷ l) r h = let g = each_cut P l r h.1 in ((h.0, g.0), g.1)

-- ---- the first element that passes a test

module _ {A B : Type 0} (test : A → Bool) (found : ℕ → A → B) where
  -- nothing was found exactly where each element fails the test
  pub nothing_found : (l : List A) (n : ℕ) → first_of test found l n ≡ None → Each (λ a. test a ≡ false) l
  unfolding first_of
  nothing_found [] n e = tt
  nothing_found (a ∷ l) n e = by (test a) refl (nothing_found l (suc n)) e
    where
      by : (t : Bool) → test a ≡ t → (first_of test found l (suc n) ≡ None → Each (λ a. test a ≡ false) l) → cond t (Some (found n a)) (first_of test found l (suc n)) ≡ None
          → (test a ≡ false) × Each (λ a. test a ≡ false) l
      by true p r q = absurd (none_some (sym q))
      by false p r q = (p, r q)

  pub none_found : (l : List A) (n : ℕ) → Each (λ a. test a ≡ false) l → first_of test found l n ≡ None
  unfolding first_of
  none_found [] n h = refl
  none_found (a ∷ l) n h = rw h.0 (none_found l (suc n) h.1)

  -- what is so of each is so of the one that was found
  pub found_one : (P : A → Type 0) (l : List A) (n : ℕ) (v : B) → Each P l → first_of test found l n ≡ Some v → (a : A) × (m : ℕ) × P a × (test a ≡ true) × (found m a ≡ v)
  unfolding first_of
  found_one P [] n v h e = absurd (none_some e)
  found_one P (a ∷ l) n v h e = by (test a) refl (found_one P l (suc n) v h.1) e
    where
      by : (t : Bool) → test a ≡ t → (first_of test found l (suc n) ≡ Some v → (a : A) × (m : ℕ) × P a × (test a ≡ true) × (found m a ≡ v))
          → cond t (Some (found n a)) (first_of test found l (suc n)) ≡ Some v → (a : A) × (m : ℕ) × P a × (test a ≡ true) × (found m a ≡ v)
      by true p r q = (a, n, h.0, p, cc)
      by false p r q = r q

-- tests that say the same of each find the same
pub first_same : {A B : Type 0} (test other : A → Bool) (found : ℕ → A → B) (l : List A) (n : ℕ) → Each (λ a. test a ≡ other a) l → first_of test found l n ≡ first_of other found l n
unfolding first_of
first_same test other found [] n h = refl
first_same test other found (a ∷ l) n h = rw (h.0, first_same test other found l (suc n) h.1)
