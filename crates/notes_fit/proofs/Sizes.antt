-- How long the notes of two slices can be, woven into one: not longer than the slices, but for the CR LF that each may lack at its end. Assumes nothing.
use Prim.Native.Nat.{ℕ, suc, ◌+◌, ◌≤◌}
use mathlib.Core.Bool.{Bool}
use mathlib.Core.List.{List, [], ◌∷◌, map}
use mathlib.Core.Path.{◌≡◌, refl, sym, ◌∙◌, ap}
use native.Mathlib.Numerals.{add-one}
use native.Mathlib.Omega.{arith}
use lib.Dec.{eqb}
use lib.ListN.{length, drop, length-append}
use lib.Seq.{drop-drop}
use Rattle.rules.proofs.Inverse.{by_bool}
use Rattle.notes_sorted.specs.Ways.{insert, into, after, rest, meet, weave}
use Rattle.notes_sorted.proofs.Sorting.{by}
use Rattle.notes_rules.specs.Notes.{not_after, joined}
use Rattle.notes_rules.specs.Places.{up_to_cr, text_at, earlier, starts, inside, skip}
use Rattle.notes_weave.specs.Loom.{texts, all}

-- ---- two lists of texts woven

meet_size : (x : List ℕ) (xs ys : List (List ℕ)) → ((zs : List (List ℕ)) → length (joined (weave not_after xs zs)) ≤ length (joined xs) + length (joined zs))
    → length (joined (meet not_after x (weave not_after xs) ys)) ≤ length (joined (x ∷ xs)) + length (joined ys)
meet_size x xs [] k = omega (arith, length-append x (13 ∷ 10 ∷ joined (weave not_after xs [])), length-append x (13 ∷ 10 ∷ joined xs), k [])
meet_size x xs (y ∷ ys) k =
    by (λ l. length (joined l) ≤ length (joined (x ∷ xs)) + length (joined (y ∷ ys))) (not_after x y) _ _
    (λ _. by (λ l. length (joined (x ∷ l)) ≤ length (joined (x ∷ xs)) + length (joined (y ∷ ys))) (not_after y x) _ _
    (λ _. omega (arith, length-append x (13 ∷ 10 ∷ joined (weave not_after xs ys)), length-append x (13 ∷ 10 ∷ joined xs), length-append y (13 ∷ 10 ∷ joined ys), k ys))
    (λ _. omega (arith, length-append x (13 ∷ 10 ∷ joined (weave not_after xs (y ∷ ys))), length-append x (13 ∷ 10 ∷ joined xs), k (y ∷ ys))))
    (λ _. omega (arith, length-append y (13 ∷ 10 ∷ joined (meet not_after x (weave not_after xs) ys)), length-append y (13 ∷ 10 ∷ joined ys), meet_size x xs ys k))

weave_size : (xs ys : List (List ℕ)) → length (joined (weave not_after xs ys)) ≤ length (joined xs) + length (joined ys)
weave_size [] ys = omega arith
weave_size (x ∷ xs) ys = meet_size x xs ys (weave_size xs)

-- ---- the texts at places, put in order and left out

module _ (f : ℕ → List ℕ) (le : ℕ → ℕ → Bool) where
  -- how long they are together
  abbrev size : List ℕ → ℕ
  size xs = length (joined (map f xs))

  insert_size : (x : ℕ) (ys : List ℕ) → size (insert le x ys) ≡ length (f x) + 2 + size ys
  insert_size x [] = omega (arith, length-append (f x) (13 ∷ 10 ∷ []))
  insert_size x (y ∷ ys) =
      by (λ l. size l ≡ length (f x) + 2 + size (y ∷ ys)) (le x y) (x ∷ y ∷ ys) (y ∷ insert le x ys)
      (λ _. omega (arith, length-append (f x) (13 ∷ 10 ∷ joined (map f (y ∷ ys)))))
      (λ _. omega (arith, length-append (f y) (13 ∷ 10 ∷ joined (map f (insert le x ys))), length-append (f y) (13 ∷ 10 ∷ joined (map f ys)), insert_size x ys))

  into_size : (acc xs : List ℕ) → size (into le acc xs) ≡ size acc + size xs
  into_size acc [] = omega arith
  into_size acc (x ∷ xs) = omega (arith, into_size (insert le x acc) xs, insert_size x acc, length-append (f x) (13 ∷ 10 ∷ joined (map f xs)))

  after_size : (last : ℕ) (xs : List ℕ) → size (after le last xs) ≤ size xs
  after_size last [] = omega arith
  after_size last (x ∷ xs) =
      by (λ l. size l ≤ size (x ∷ xs)) (le x last) _ _
      (λ _. omega (arith, length-append (f x) (13 ∷ 10 ∷ joined (map f xs)), after_size last xs))
      (λ _. omega (arith, length-append (f x) (13 ∷ 10 ∷ joined (map f xs)), length-append (f x) (13 ∷ 10 ∷ joined (map f (after le last xs))), after_size last xs))

-- ---- the texts at the places where notes start

drop_next : (s l : List ℕ) (i b : ℕ) → drop i s ≡ b ∷ l → drop (suc i) s ≡ l
drop_next s l i b e = ap (λ (n : ℕ). drop n s) (sym (add-one i)) ∙ sym (drop-drop 1 i s) ∙ ap (drop 1) e

module _ (s : List ℕ) where
  text_first : (l : List ℕ) (i b : ℕ) → drop i s ≡ b ∷ l → text_at s i ≡ up_to_cr (b ∷ l)
  unfolding text_at
  text_first l i b e = ap up_to_cr e

  mutual
    starts_size : (l : List ℕ) (i : ℕ) → drop i s ≡ l → length (joined (map (text_at s) (starts i l))) ≤ length l + 2
    starts_size [] i e = omega arith
    starts_size (b ∷ l) i e =
        let n = drop_next s l i b e in
        let t = text_first l i b e in
        by_bool (eqb b 13)
        (λ c. rw (t, c) (omega (arith, skip_size l (suc i) n)))
        (λ c. rw (t, c) (omega (arith, length-append (up_to_cr l) (13 ∷ 10 ∷ joined (map (text_at s) (inside (suc i) l))), inside_size l (suc i) n)))

    inside_size : (l : List ℕ) (i : ℕ) → drop i s ≡ l → length (joined (map (text_at s) (inside i l))) + length (up_to_cr l) ≤ length l
    inside_size [] i e = omega arith
    inside_size (b ∷ l) i e =
        let n = drop_next s l i b e in
        by_bool (eqb b 13) (λ c. rw c (omega (arith, skip_size l (suc i) n))) (λ c. rw c (omega (arith, inside_size l (suc i) n)))

    skip_size : (l : List ℕ) (i : ℕ) → drop i s ≡ l → length (joined (map (text_at s) (skip i l))) ≤ length l + 1
    skip_size [] i e = omega arith
    skip_size (b ∷ l) i e = omega (arith, starts_size l (suc i) (drop_next s l i b e))

  texts_size : (last : ℕ) → length (joined (texts s last)) ≤ length s + 2
  unfolding rest
  texts_size last =
      omega (arith, into_size (text_at s) (earlier s) [] (after (earlier s) last (starts 0 s)), after_size (text_at s) (earlier s) last (starts 0 s), starts_size s 0 refl)

pub all_size : (a b : List ℕ) → length (all a b) ≤ length a + length b + 4
unfolding all
all_size a b = omega (arith, weave_size (texts a (length a)) (texts b (length b)), texts_size a (length a), texts_size b (length b))
