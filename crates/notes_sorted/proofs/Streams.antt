-- The sort in runs: the first k of what comes after `last`, found by one look at each element; and how it goes on. Assumes nothing.
use Prim.Native.Nat.{ℕ, zero, suc, ◌+◌, ◌≤◌, ◌<◌}
use mathlib.Core.Bool.{Bool, true, false, cond}
use mathlib.Core.List.{List, [], ◌∷◌, ◌++◌}
use mathlib.Core.Path.{◌≡◌, refl, ap}
use native.Mathlib.Omega.{arith}
use lib.ListN.{length, take, drop, get_or}
use lib.Seq.{take-take, take-nil}
use Rattle.rules.proofs.Inverse.{by_bool}
use Rattle.notes_sorted.specs.Sorted.{Total, hit, count, Above, Sorted}
use Rattle.notes_sorted.specs.Ways.{insert, into, after, rest, keep, gather}
use Rattle.notes_sorted.proofs.Sorting.{by, clash, reflexive, hit_self, hit_is, hit_before, absent, unique, into_count, into_sorted, into_length}

module _ {A : Type 0} {le : A → A → Bool} (O : Total le) where
  -- ---- what comes after `last`
  after_none : (z last : A) (xs : List A) → le z last ≡ true → count le z (after le last xs) ≡ 0
  after_none z last [] e = refl
  after_none z last (x ∷ xs) e =
      by (λ l. count le z l ≡ 0) (le x last) _ _ (λ _. after_none z last xs e) (λ f. go f (after_none z last xs e) (hit le z x) refl)
    where
      go : le x last ≡ false → count le z (after le last xs) ≡ 0 → (n : ℕ) → hit le z x ≡ n → hit le z x + count le z (after le last xs) ≡ 0
      go f ih zero h = omega arith
      go f ih (suc n) h = let d : z ≡ x = hit_is O z x (omega arith) in clash (rw (← d) e) f

  after_all : (z last : A) (xs : List A) → le z last ≡ false → count le z (after le last xs) ≡ count le z xs
  after_all z last [] e = refl
  after_all z last (x ∷ xs) e =
      by (λ l. count le z l ≡ hit le z x + count le z xs) (le x last) _ _ (λ f. go f (after_all z last xs e) (hit le z x) refl) (λ _. omega (arith, after_all z last xs e))
    where
      go : le x last ≡ true → count le z (after le last xs) ≡ count le z xs → (n : ℕ) → hit le z x ≡ n → count le z (after le last xs) ≡ hit le z x + count le z xs
      go f ih zero h = omega arith
      go f ih (suc n) h = let d : z ≡ x = hit_is O z x (omega arith) in clash (rw d f) e

  after_length : (last : A) (xs : List A) → length (after le last xs) ≤ length xs
  after_length last [] = omega arith
  after_length last (x ∷ xs) = by (λ l. length l ≤ suc (length xs)) (le x last) _ _ (λ _. omega (arith, after_length last xs)) (λ _. omega (arith, after_length last xs))

  pub rest_length : (last : A) (xs : List A) → length (rest le last xs) ≤ length xs
  unfolding rest
  rest_length last xs = omega (arith, into_length O [] (after le last xs), after_length last xs)

  pub rest_sorted : (last : A) (xs : List A) → Sorted le (rest le last xs)
  unfolding rest
  rest_sorted last xs = into_sorted O [] (after le last xs) tt

  rest_count : (z last : A) (xs : List A) → count le z (rest le last xs) ≡ count le z (after le last xs)
  unfolding rest
  rest_count z last xs = omega (arith, into_count O z [] (after le last xs))

  -- behind the first of what comes after `last` stands what comes after that one
  pub follow : (last h : A) (xs q : List A) → ((z : A) → count le z xs ≤ 1) → rest le last xs ≡ h ∷ q → rest le h xs ≡ q
  follow last h xs q one e = unique O (rest le h xs) q (rest_sorted h xs) s.1 counts
    where
      s : Sorted le (h ∷ q)
      s = rw e at (rest_sorted last xs)

      c : (z : A) → hit le z h + count le z q ≡ count le z (after le last xs)
      c z = rw (← rest_count z last xs, e)

      later : le h last ≡ false
      later = by_bool (le h last) (λ f. absurd (omega (arith, c h, after_none h last xs f, hit_self O h))) (λ f. f)

      counts : (z : A) → count le z (rest le h xs) ≡ count le z q
      counts z =
          by_bool (le z h)
          (λ f. by_bool (le h z)
          (λ g. by_bool (le z last)
          (λ k. omega (arith, c z, rest_count z h xs, after_none z h xs f, after_none z last xs k))
          (λ k. let d : z ≡ h = O.antisym z h f g in let w : hit le z h ≡ hit le h h = rw d in
          omega (arith, c z, rest_count z h xs, after_none z h xs f, after_all z last xs k, one z, hit_self O h)))
          (λ g. omega (arith, rest_count z h xs, after_none z h xs f, absent O z h q g s.0)))
          (λ f.
          let k : le z last ≡ false = by_bool (le z last) (λ k. clash (O.trans h z last (O.total z h f) k) later) (λ k. k) in
          omega (arith, c z, rest_count z h xs, after_all z h xs f, after_all z last xs k, hit_before O z h f))

  -- ---- the first k
  take_cons : (k : ℕ) (y : A) (ys : List A) → take k (y ∷ take k ys) ≡ take k (y ∷ ys)
  take_cons zero y ys = refl
  take_cons (suc k) y ys = ap (λ (l : List A). y ∷ l) (take-take k (suc k) ys (omega arith))

  take_insert : (k : ℕ) (x : A) (acc : List A) → take k (insert le x (take k acc)) ≡ take k (insert le x acc)
  take_insert zero x acc = refl
  take_insert (suc k) x [] = refl
  take_insert (suc k) x (y ∷ ys) = go (le x y) (take_insert k x ys)
    where
      go : (b : Bool) → take k (insert le x (take k ys)) ≡ take k (insert le x ys)
          → take (suc k) (cond b (x ∷ y ∷ take k ys) (y ∷ insert le x (take k ys))) ≡ take (suc k) (cond b (x ∷ y ∷ ys) (y ∷ insert le x ys))
      go true ih = ap (λ (l : List A). x ∷ l) (take_cons k y ys)
      go false ih = ap (λ (l : List A). y ∷ l) ih

  gather_into : (k : ℕ) (last : A) (acc xs : List A) → gather le k last (take k acc) xs ≡ take k (into le acc (after le last xs))
  unfolding keep
  gather_into k last acc [] = refl
  gather_into k last acc (x ∷ xs) = go (le x last) (gather_into k last acc xs) (gather_into k last (insert le x acc) xs)
    where
      go : (b : Bool) → gather le k last (take k acc) xs ≡ take k (into le acc (after le last xs))
          → gather le k last (take k (insert le x acc)) xs ≡ take k (into le (insert le x acc) (after le last xs))
          → gather le k last (cond b (take k acc) (take k (insert le x (take k acc)))) xs ≡ take k (into le acc (cond b (after le last xs) (x ∷ after le last xs)))
      go true i j = i
      go false i j = rw (take_insert k x acc) j

  pub gather_is : (k : ℕ) (last : A) (xs : List A) → gather le k last [] xs ≡ take k (rest le last xs)
  unfolding rest
  gather_is k last xs = rw (take-nil {A = A} k) at (gather_into k last [] xs)

  -- ---- the place of an element in a list in order
  pub insert_at : (d x : A) (p : ℕ) (ys : List A) → p ≤ length ys → ((i : ℕ) → i < p → le x (get_or ys i d) ≡ false) → (p < length ys → le x (get_or ys p d) ≡ true)
      → insert le x ys ≡ take p ys ++ x ∷ drop p ys
  insert_at d x zero [] h f g = refl
  insert_at d x zero (y ∷ ys) h f g = rw (g (omega arith))
  insert_at d x (suc p) [] h f g = absurd (omega arith)
  insert_at d x (suc p) (y ∷ ys) h f g =
      rw (f 0 (omega arith)) (ap (λ (l : List A). y ∷ l) (insert_at d x p ys (omega arith) (λ i k. f (suc i) (omega arith)) (λ k. g (omega arith))))

  above_at : (d x : A) (ys : List A) (i : ℕ) → Above le x ys → i < length ys → le x (get_or ys i d) ≡ true
  above_at d x [] i a h = absurd (omega arith)
  above_at d x (y ∷ ys) zero a h = a.0
  above_at d x (y ∷ ys) (suc i) a h = above_at d x ys i a.1 (omega arith)

  pub sorted_at : (d : A) (ys : List A) (i j : ℕ) → Sorted le ys → i ≤ j → j < length ys → le (get_or ys i d) (get_or ys j d) ≡ true
  sorted_at d [] i j s h k = absurd (omega arith)
  sorted_at d (y ∷ ys) zero zero s h k = reflexive O y
  sorted_at d (y ∷ ys) zero (suc j) s h k = above_at d y ys j s.0 (omega arith)
  sorted_at d (y ∷ ys) (suc i) zero s h k = absurd (omega arith)
  sorted_at d (y ∷ ys) (suc i) (suc j) s h k = sorted_at d ys i j s.1 (omega arith) (omega arith)

  take_above : (k : ℕ) (x : A) (ys : List A) → Above le x ys → Above le x (take k ys)
  take_above zero x ys a = tt
  take_above (suc k) x [] a = tt
  take_above (suc k) x (y ∷ ys) a = (a.0, take_above k x ys a.1)

  pub take_sorted : (k : ℕ) (ys : List A) → Sorted le ys → Sorted le (take k ys)
  take_sorted zero ys s = tt
  take_sorted (suc k) [] s = tt
  take_sorted (suc k) (y ∷ ys) s = (take_above k y ys s.0, take_sorted k ys s.1)
