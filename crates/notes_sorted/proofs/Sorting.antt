-- Lists in order: how often each occurs where one is put in, and where two lists are walked; and that a list in order is known by its counts. Assumes nothing.
use Prim.Native.Nat.{ℕ, zero, suc, ◌+◌, ◌-◌, ◌≤◌}
use mathlib.Core.Bool.{Bool, true, false, cond, ◌&&◌}
use mathlib.Core.List.{List, [], ◌∷◌}
use mathlib.Core.Logic.{◌↔◌}
use mathlib.Core.Path.{◌≡◌, refl, sym, ◌∙◌, ap}
use native.Mathlib.Omega.{arith}
use lib.ListN.{length}
use Rattle.rules.proofs.Inverse.{by_bool}
use Rattle.notes_sorted.specs.Sorted.{Total, hit, count, Above, Sorted}
use Rattle.notes_sorted.specs.Ways.{insert, into, meet, weave}

-- ---- tests

module _ {A : Type 0} (P : A → Type 0) where
  pub by : (b : Bool) (u v : A) → (b ≡ true → P u) → (b ≡ false → P v) → P (cond b u v)
  by true u v f g = f refl
  by false u v f g = g refl

pub clash : {P : Type 0} {b : Bool} → b ≡ true → b ≡ false → P
clash p q = let z : ◌≡◌ {A = ℕ} 0 1 = cc in absurd (omega arith)

module _ {A : Type 0} {le : A → A → Bool} (O : Total le) where
  pub reflexive : (x : A) → le x x ≡ true
  reflexive x = by_bool (le x x) (λ e. e) (λ e. O.total x x e)

  pub hit_self : (x : A) → hit le x x ≡ 1
  unfolding hit
  hit_self x = rw (reflexive x)

  pub hit_le_one : (x y : A) → hit le x y ≤ 1
  unfolding hit
  hit_le_one x y = by (λ n. n ≤ 1) (le x y && le y x) 1 0 (λ _. omega arith) (λ _. omega arith)

  -- where the two are not the same
  pub hit_before : (x y : A) → le x y ≡ false → hit le x y ≡ 0
  unfolding hit
  hit_before x y e = rw e

  pub hit_behind : (x y : A) → le y x ≡ false → hit le x y ≡ 0
  unfolding hit
  hit_behind x y e = by_bool (le x y) (λ f. rw (f, e)) (λ f. rw f)

  pub hit_is : (x y : A) → 1 ≤ hit le x y → x ≡ y
  unfolding hit
  hit_is x y h = by_bool (le x y) (λ f. by_bool (le y x) (λ g. O.antisym x y f g) (λ g. absurd (omega (arith, hit_behind x y g)))) (λ f. absurd (omega (arith, hit_before x y f)))

  -- 1 exactly where the two are the same
  pub hit_exactly : (x y : A) → (hit le x y ≡ 1) ↔ (x ≡ y)
  hit_exactly x y = (λ e. hit_is x y (omega arith), λ e. let f : hit le x x ≡ hit le x y = ap (hit le x) e in sym f ∙ hit_self x)

  -- ---- what occurs in a list that lies above x does not come before x
  pub above_member : (x z : A) (ys : List A) → Above le x ys → 1 ≤ count le z ys → le x z ≡ true
  above_member x z [] a h = absurd (omega arith)
  above_member x z (y ∷ ys) a h = by_bool (le x z) (λ e. e) (λ e.
      let g : hit le z y ≡ 0 = by_bool (le z y) (λ f. by_bool (le y z) (λ k. clash (O.trans x y z a.0 k) e) (λ k. hit_behind z y k)) (λ f. hit_before z y f) in
      above_member x z ys a.1 (omega arith))

  -- a list in order is known by how often each occurs in it
  pub unique : (xs ys : List A) → Sorted le xs → Sorted le ys → ((z : A) → count le z xs ≡ count le z ys) → xs ≡ ys
  unique [] [] s t e = refl
  unique [] (y ∷ ys) s t e = absurd (omega (arith, e y, hit_self y))
  unique (x ∷ xs) [] s t e = absurd (omega (arith, e x, hit_self x))
  unique (x ∷ xs) (y ∷ ys) s t e =
      let p : le x y ≡ true = above_member x y (x ∷ xs) (reflexive x, s.0) (omega (arith, e y, hit_self y)) in
      let q : le y x ≡ true = above_member y x (y ∷ ys) (reflexive y, t.0) (omega (arith, e x, hit_self x)) in
      let d : x ≡ y = O.antisym x y p q in
      let h : (z : A) → hit le z x ≡ hit le z y = λ z. rw d in
      let r : xs ≡ ys = unique xs ys s.1 t.1 (λ z. omega (arith, e z, h z)) in
      cc

  -- ---- insertion
  pub insert_count : (z x : A) (ys : List A) → count le z (insert le x ys) ≡ hit le z x + count le z ys
  insert_count z x [] = refl
  insert_count z x (y ∷ ys) =
      by (λ l. count le z l ≡ hit le z x + (hit le z y + count le z ys)) (le x y) _ _ (λ _. refl) (λ _. omega (arith, insert_count z x ys))

  pub insert_above : (w x : A) (ys : List A) → le w x ≡ true → Above le w ys → Above le w (insert le x ys)
  insert_above w x [] h a = (h, tt)
  insert_above w x (y ∷ ys) h a = by (λ l. Above le w l) (le x y) _ _ (λ _. (h, a)) (λ _. (a.0, insert_above w x ys h a.1))

  pub above_less : (x y : A) (ys : List A) → le x y ≡ true → Above le y ys → Above le x ys
  above_less x y [] h a = tt
  above_less x y (z ∷ ys) h a = (O.trans x y z h a.0, above_less x y ys h a.1)

  pub insert_sorted : (x : A) (ys : List A) → Sorted le ys → Sorted le (insert le x ys)
  insert_sorted x [] s = (tt, tt)
  insert_sorted x (y ∷ ys) s =
      by (λ l. Sorted le l) (le x y) _ _ (λ e. ((e, above_less x y ys e s.0), s)) (λ e. (insert_above y x ys (O.total x y e) s.0, insert_sorted x ys s.1))

  pub into_count : (z : A) (acc xs : List A) → count le z (into le acc xs) ≡ count le z acc + count le z xs
  into_count z acc [] = omega arith
  into_count z acc (x ∷ xs) = omega (arith, into_count z (insert le x acc) xs, insert_count z x acc)

  pub into_sorted : (acc xs : List A) → Sorted le acc → Sorted le (into le acc xs)
  into_sorted acc [] s = s
  into_sorted acc (x ∷ xs) s = into_sorted (insert le x acc) xs (insert_sorted x acc s)

  insert_length : (x : A) (ys : List A) → length (insert le x ys) ≡ suc (length ys)
  insert_length x [] = refl
  insert_length x (y ∷ ys) = by (λ l. length l ≡ suc (suc (length ys))) (le x y) _ _ (λ _. refl) (λ _. ap suc (insert_length x ys))

  pub into_length : (acc xs : List A) → length (into le acc xs) ≡ length acc + length xs
  into_length acc [] = omega arith
  into_length acc (x ∷ xs) = omega (arith, into_length (insert le x acc) xs, insert_length x acc)

  -- ---- the walk over two lists in order
  meet_above : (w x : A) (f : List A → List A) (ys : List A) → le w x ≡ true → Above le w ys → ((zs : List A) → Above le w zs → Above le w (f zs)) → Above le w (meet le x f ys)
  meet_above w x f [] h a k = (h, k [] tt)
  meet_above w x f (y ∷ ys) h a k =
      by (λ l. Above le w l) (le x y) _ _
      (λ _. (h, by (λ l. Above le w l) (le y x) _ _ (λ _. k ys a.1) (λ _. k (y ∷ ys) a)))
      (λ _. (a.0, meet_above w x f ys h a.1 k))

  pub weave_above : (w : A) (xs ys : List A) → Above le w xs → Above le w ys → Above le w (weave le xs ys)
  weave_above w [] ys a b = b
  weave_above w (x ∷ xs) ys a b = meet_above w x (weave le xs) ys a.0 b (λ zs c. weave_above w xs zs a.1 c)

  meet_sorted : (x : A) (xs ys : List A) → Above le x xs → Sorted le ys → ((zs : List A) → Sorted le zs → Sorted le (weave le xs zs)) → Sorted le (meet le x (weave le xs) ys)
  meet_sorted x xs [] a t k = (weave_above x xs [] a tt, k [] tt)
  meet_sorted x xs (y ∷ ys) a t k =
      by (λ l. Sorted le l) (le x y) _ _
      (λ e. (
        by (λ l. Above le x l) (le y x) _ _
            (λ _. weave_above x xs ys a (above_less x y ys e t.0))
            (λ _. weave_above x xs (y ∷ ys) a (e, above_less x y ys e t.0)),
        by (λ l. Sorted le l) (le y x) _ _ (λ _. k ys t.1) (λ _. k (y ∷ ys) t),
      ))
      (λ e. let g : le y x ≡ true = O.total x y e in (
        meet_above y x (weave le xs) ys g t.0 (λ zs c. weave_above y xs zs (above_less y x xs g a) c),
        meet_sorted x xs ys a t.1 k,
      ))

  pub weave_sorted : (xs ys : List A) → Sorted le xs → Sorted le ys → Sorted le (weave le xs ys)
  weave_sorted [] ys s t = t
  weave_sorted (x ∷ xs) ys s t = meet_sorted x xs ys s.0 t (λ zs u. weave_sorted xs zs s.1 u)

  -- what lies above y, with x before y, has no x
  pub absent : (x y : A) (ys : List A) → le y x ≡ false → Above le y ys → count le x ys ≡ 0
  absent x y ys e a = go (count le x ys) refl
    where
      go : (n : ℕ) → count le x ys ≡ n → count le x ys ≡ 0
      go zero h = h
      go (suc n) h = clash (above_member y x ys a (omega arith)) e

  pub same_hit : (z x y : A) → le x y ≡ true → le y x ≡ true → hit le z x ≡ hit le z y
  same_hit z x y e f = let d : x ≡ y = O.antisym x y e f in rw d

  meet_count : (z x : A) (xs ys : List A) → Above le x xs → Sorted le ys → ((zs : List A) → Sorted le zs → count le z (weave le xs zs) ≡ count le z xs + (count le z zs - count le z xs))
      → count le z (meet le x (weave le xs) ys) ≡ (hit le z x + count le z xs) + (count le z ys - (hit le z x + count le z xs))
  meet_count z x xs [] a t k = omega (arith, k [] tt)
  meet_count z x xs (y ∷ ys) a t k =
      by (λ l. count le z l ≡ (hit le z x + count le z xs) + ((hit le z y + count le z ys) - (hit le z x + count le z xs))) (le x y) _ _
      (λ e. by (λ l. hit le z x + count le z l ≡ (hit le z x + count le z xs) + ((hit le z y + count le z ys) - (hit le z x + count le z xs))) (le y x) _ _
      (λ f. omega (arith, k ys t.1, same_hit z x y e f))
      (λ f. first e f))
      (λ e. let ih = meet_count z x xs ys a t.1 k in later e ih)
    where
      -- x comes before y: where z is x, none of y ∷ ys is
      first : le x y ≡ true → le y x ≡ false → hit le z x + count le z (weave le xs (y ∷ ys)) ≡ (hit le z x + count le z xs) + ((hit le z y + count le z ys) - (hit le z x + count le z xs))
      first e f = one (hit le z x) refl
        where
          one : (n : ℕ) → hit le z x ≡ n → hit le z x + count le z (weave le xs (y ∷ ys)) ≡ (hit le z x + count le z xs) + ((hit le z y + count le z ys) - (hit le z x + count le z xs))
          one zero h = omega (arith, k (y ∷ ys) t)
          one (suc n) h =
              let d : z ≡ x = hit_is z x (omega arith) in
              let g : hit le z y + count le z ys ≡ 0 = absent z y (y ∷ ys) (rw d f) (reflexive y, t.0) in
              omega (arith, k (y ∷ ys) t)

      -- y comes before x: where z is y, none of x ∷ xs is
      later : le x y ≡ false → count le z (meet le x (weave le xs) ys) ≡ (hit le z x + count le z xs) + (count le z ys - (hit le z x + count le z xs))
          → hit le z y + count le z (meet le x (weave le xs) ys) ≡ (hit le z x + count le z xs) + ((hit le z y + count le z ys) - (hit le z x + count le z xs))
      later e ih = one (hit le z y) refl
        where
          one : (n : ℕ) → hit le z y ≡ n → hit le z y + count le z (meet le x (weave le xs) ys) ≡ (hit le z x + count le z xs) + ((hit le z y + count le z ys) - (hit le z x + count le z xs))
          one zero h = omega arith
          one (suc n) h =
              let d : z ≡ y = hit_is z y (omega arith) in
              let g : hit le z x + count le z xs ≡ 0 = absent z x (x ∷ xs) (rw d e) (reflexive x, a) in
              omega arith

  pub weave_count : (z : A) (xs ys : List A) → Sorted le xs → Sorted le ys → count le z (weave le xs ys) ≡ count le z xs + (count le z ys - count le z xs)
  weave_count z [] ys s t = omega arith
  weave_count z (x ∷ xs) ys s t = meet_count z x xs ys s.0 t (λ zs u. weave_count z xs zs s.1 u)
