-- Places of notes are in order too, by their texts and then by where they stand; and the places of notes, put in order, lead to the notes in order. Assumes nothing.
use Prim.Native.Nat.{ℕ, zero, suc, ◌+◌, ◌≤◌, ◌<◌}
use mathlib.Core.Bool.{Bool, true, false, not}
use mathlib.Core.List.{List, [], ◌∷◌, ◌++◌, map}
use mathlib.Core.Logic.{◌⊎◌, inl, inr}
use mathlib.Core.Path.{◌≡◌, refl, sym, ◌∙◌, ap}
use native.Mathlib.Omega.{arith}
use borrow.Author.Tests.{le-leb, lt-leb, leb-true, leb-false, not-true, not-false}
use lib.Dec.{leb, eqb}
use lib.ListN.{length, drop, length-append, length-drop}
use lib.Seq.{drop-drop, drop-length}
use Rattle.rules.specs.Choice.{Each}
use Rattle.rules.proofs.Inverse.{by_bool}
use Rattle.notes_sorted.specs.Sorted.{Total, hit, count, Above, Sorted}
use Rattle.notes_sorted.specs.Ways.{insert, into, in_order, after, rest}
use Rattle.notes_sorted.proofs.Sorting.{by, clash, hit_is, hit_le_one, unique, into_count, into_sorted}
use Rattle.notes_rules.specs.Notes.{not_after, joined}
use Rattle.notes_rules.specs.Places.{up_to_cr, Plain, Note, text_at, earlier, starts, inside, skip}
use Rattle.notes_rules.proofs.Texts.{text_total, text_trans, texts}

-- ---- the order of places

module _ (s : List ℕ) where
  abbrev low : ℕ → ℕ → Bool
  low i j = not_after (text_at s i) (text_at s j)

  pub earlier_up : (i j : ℕ) → i ≤ j → earlier s i j ≡ low i j
  unfolding earlier
  earlier_up i j h = rw (le-leb i j h)

  pub earlier_down : (i j : ℕ) → j < i → earlier s i j ≡ not (low j i)
  unfolding earlier
  earlier_down i j h = rw (lt-leb i j h)

  place_inv : (i j : ℕ) → earlier s i j ≡ true → ((i ≤ j) × (low i j ≡ true)) ⊎ ((j < i) × (low j i ≡ false))
  place_inv i j e =
      by_bool (leb i j)
      (λ f. let h = leb-true i j f in inl (h, sym (earlier_up i j h) ∙ e))
      (λ f. let h = leb-false i j f in inr (h, not-true (low j i) (sym (earlier_down i j h) ∙ e)))

  -- it is so also of the texts
  pub earlier_text : (i j : ℕ) → earlier s i j ≡ true → low i j ≡ true
  earlier_text i j e = go (place_inv i j e)
    where
      go : ((i ≤ j) × (low i j ≡ true)) ⊎ ((j < i) × (low j i ≡ false)) → low i j ≡ true
      go (inl h) = h.1
      go (inr h) = text_total (text_at s j) (text_at s i) h.1

  place_total : (i j : ℕ) → earlier s i j ≡ false → earlier s j i ≡ true
  place_total i j e =
      by_bool (leb i j)
      (λ f. by_bool (leb j i)
      (λ g. let d : i ≡ j = omega (arith, leb-true i j f, leb-true j i g) in
      let k : low i j ≡ false = sym (earlier_up i j (leb-true i j f)) ∙ e in earlier_up j i (leb-true j i g) ∙ text_total (text_at s i) (text_at s j) k)
      (λ g. let k : low i j ≡ false = sym (earlier_up i j (leb-true i j f)) ∙ e in earlier_down j i (leb-false j i g) ∙ ap not k))
      (λ f. let k : low j i ≡ true = not-false (low j i) (sym (earlier_down i j (leb-false i j f)) ∙ e) in earlier_up j i (omega (arith, leb-false i j f)) ∙ k)

  tr : (i j k : ℕ) → low i j ≡ true → low j k ≡ true → low i k ≡ true
  tr i j k = text_trans (text_at s i) (text_at s j) (text_at s k)

  place_trans : (i j k : ℕ) → earlier s i j ≡ true → earlier s j k ≡ true → earlier s i k ≡ true
  place_trans i j k e f = by_bool (leb i k) (λ g. earlier_up i k (leb-true i k g) ∙ tr i j k (earlier_text i j e) (earlier_text j k f)) (λ g.
      earlier_down i k (leb-false i k g) ∙ ap not (by_bool (low k i) (λ h. go h (leb-false i k g) (place_inv i j e) (place_inv j k f)) (λ h. h)))
    where
      go : low k i ≡ true → k < i → ((i ≤ j) × (low i j ≡ true)) ⊎ ((j < i) × (low j i ≡ false)) → ((j ≤ k) × (low j k ≡ true)) ⊎ ((k < j) × (low k j ≡ false)) → low k i ≡ false
      go h g (inl p) (inl q) = absurd (omega (arith, p.0, q.0))
      go h g (inl p) (inr q) = clash (tr k i j h p.1) q.1
      go h g (inr p) (inl q) = clash (tr j k i q.1 h) p.1
      go h g (inr p) (inr q) = clash (tr k i j h (earlier_text i j e)) q.1

  place_antisym : (i j : ℕ) → earlier s i j ≡ true → earlier s j i ≡ true → i ≡ j
  place_antisym i j e f = go (place_inv i j e) (place_inv j i f)
    where
      go : ((i ≤ j) × (low i j ≡ true)) ⊎ ((j < i) × (low j i ≡ false)) → ((j ≤ i) × (low j i ≡ true)) ⊎ ((i < j) × (low i j ≡ false)) → i ≡ j
      go (inl p) (inl q) = omega (arith, p.0, q.0)
      go (inl p) (inr q) = clash p.1 q.1
      go (inr p) (inl q) = clash q.1 p.1
      go (inr p) (inr q) = absurd (omega (arith, p.0, q.0))

  pub places : Total (earlier s)
  places = record { total = place_total; trans = place_trans; antisym = place_antisym }

-- ---- places that rise are told apart

abbrev pub Rising : ℕ → List ℕ → Type 0
Rising i [] = Unit {0}
Rising i (x ∷ xs) = (i ≤ x) × Rising (suc x) xs

pub rising_less : (i j : ℕ) (xs : List ℕ) → i ≤ j → Rising j xs → Rising i xs
rising_less i j [] h r = tt
rising_less i j (x ∷ xs) h r = (omega (arith, r.0), r.1)

module _ {le : ℕ → ℕ → Bool} (O : Total le) where
  rising_none : (i z : ℕ) (xs : List ℕ) → Rising i xs → z < i → count le z xs ≡ 0
  rising_none i z [] r h = refl
  rising_none i z (x ∷ xs) r h = go (rising_none (suc x) z xs r.1 (omega (arith, r.0))) (hit le z x) refl
    where
      go : count le z xs ≡ 0 → (n : ℕ) → hit le z x ≡ n → hit le z x + count le z xs ≡ 0
      go ih zero e = omega arith
      go ih (suc n) e = absurd (omega (arith, hit_is O z x (omega arith), r.0))

  pub rising_once : (i z : ℕ) (xs : List ℕ) → Rising i xs → count le z xs ≤ 1
  rising_once i z [] r = omega arith
  rising_once i z (x ∷ xs) r = go (rising_once (suc x) z xs r.1) (hit le z x) refl
    where
      go : count le z xs ≤ 1 → (n : ℕ) → hit le z x ≡ n → hit le z x + count le z xs ≤ 1
      go ih zero e = omega arith
      go ih (suc n) e = omega (arith, hit_is O z x (omega arith), hit_le_one O z x, rising_none (suc x) z xs r.1 (omega (arith, hit_is O z x (omega arith))))

mutual
  pub starts_rising : (l : List ℕ) (i : ℕ) → Rising i (starts i l)
  starts_rising [] i = tt
  starts_rising (b ∷ l) i = (omega arith, by (Rising (suc i)) (eqb b 13) _ _ (λ _. skip_rising l (suc i)) (λ _. inside_rising l (suc i)))

  inside_rising : (l : List ℕ) (i : ℕ) → Rising i (inside i l)
  inside_rising [] i = tt
  inside_rising (b ∷ l) i =
      by (Rising i) (eqb b 13) _ _ (λ _. rising_less i (suc i) (skip (suc i) l) (omega arith) (skip_rising l (suc i))) (λ _. rising_less i (suc i) (inside (suc i) l) (omega arith) (inside_rising l (suc i)))

  skip_rising : (l : List ℕ) (i : ℕ) → Rising i (skip i l)
  skip_rising [] i = tt
  skip_rising (b ∷ l) i = rising_less i (suc i) (starts (suc i) l) (omega arith) (starts_rising l (suc i))

mutual
  pub starts_length : (l : List ℕ) (i : ℕ) → length (starts i l) ≤ length l
  starts_length [] i = omega arith
  starts_length (b ∷ l) i = by (λ x. suc (length x) ≤ suc (length l)) (eqb b 13) _ _ (λ _. omega (arith, skip_length l (suc i))) (λ _. omega (arith, inside_length l (suc i)))

  inside_length : (l : List ℕ) (i : ℕ) → length (inside i l) ≤ length l
  inside_length [] i = omega arith
  inside_length (b ∷ l) i = by (λ x. length x ≤ suc (length l)) (eqb b 13) _ _ (λ _. omega (arith, skip_length l (suc i))) (λ _. omega (arith, inside_length l (suc i)))

  skip_length : (l : List ℕ) (i : ℕ) → length (skip i l) ≤ length l
  skip_length [] i = omega arith
  skip_length (b ∷ l) i = omega (arith, starts_length l (suc i))

-- ---- the places of notes sorted, and their texts

module _ (s : List ℕ) where
  map_count : (z : List ℕ) (x : ℕ) (ys : List ℕ) → count not_after z (map (text_at s) (insert (earlier s) x ys)) ≡ hit not_after z (text_at s x) + count not_after z (map (text_at s) ys)
  map_count z x [] = refl
  map_count z x (y ∷ ys) =
      by (λ l. count not_after z (map (text_at s) l) ≡ hit not_after z (text_at s x) + (hit not_after z (text_at s y) + count not_after z (map (text_at s) ys))) (earlier s x y) _ _
      (λ _. refl) (λ _. omega (arith, map_count z x ys))

  maps_count : (z : List ℕ) (acc xs : List ℕ) → count not_after z (map (text_at s) (into (earlier s) acc xs)) ≡ count not_after z (map (text_at s) acc) + count not_after z (map (text_at s) xs)
  maps_count z acc [] = omega arith
  maps_count z acc (x ∷ xs) = omega (arith, maps_count z (insert (earlier s) x acc) xs, map_count z x acc)

  map_above : (x : ℕ) (ys : List ℕ) → Above (earlier s) x ys → Above not_after (text_at s x) (map (text_at s) ys)
  map_above x [] a = tt
  map_above x (y ∷ ys) a = (earlier_text s x y a.0, map_above x ys a.1)

  map_sorted : (ys : List ℕ) → Sorted (earlier s) ys → Sorted not_after (map (text_at s) ys)
  map_sorted [] a = tt
  map_sorted (y ∷ ys) a = (map_above y ys a.0, map_sorted ys a.1)

  sorted_texts : (xs : List ℕ) → map (text_at s) (in_order (earlier s) xs) ≡ in_order not_after (map (text_at s) xs)
  sorted_texts xs =
      unique texts (map (text_at s) (in_order (earlier s) xs)) (in_order not_after (map (text_at s) xs)) (map_sorted (in_order (earlier s) xs) (into_sorted (places s) [] xs tt))
      (into_sorted texts [] (map (text_at s) xs) tt) (λ z. omega (arith, maps_count z [] xs, into_count texts z [] (map (text_at s) xs)))

-- ---- a list of notes is cut where they start

cut_text : (t r : List ℕ) → Plain t → up_to_cr (t ++ 13 ∷ r) ≡ t
cut_text [] r p = refl
cut_text (b ∷ t) r p = rw p.0 (ap (λ (l : List ℕ). b ∷ l) (cut_text t r p.1))

inside_plain : (t r : List ℕ) (i : ℕ) → Plain t → inside i (t ++ 13 ∷ 10 ∷ r) ≡ starts (i + length t + 2) r
inside_plain [] r i p = let e : suc (suc i) ≡ i + 0 + 2 = omega arith in ap (λ (n : ℕ). starts n r) e
inside_plain (b ∷ t) r i p =
    let e : suc i + length t + 2 ≡ i + suc (length t) + 2 = omega arith in
    rw p.0 (inside_plain t r (suc i) p.1 ∙ ap (λ (n : ℕ). starts n r) e)

-- none of the places has the empty text, which stands behind the last
abbrev Filled : List ℕ → List ℕ → Type 0
Filled s [] = Unit {0}
Filled s (x ∷ xs) = (x ≤ length s) × (not_after (text_at s x) [] ≡ false) × Filled s xs

pub record Cut (s : List ℕ) (ts : List (List ℕ)) (xs : List ℕ) : Type 0 where
  pub texts_are : map (text_at s) xs ≡ ts
  pub filled : Filled s xs

drop_append : (t r : List ℕ) → drop (length t + 2) (t ++ 13 ∷ 10 ∷ r) ≡ r
drop_append [] r = refl
drop_append (b ∷ t) r = let e : suc (length t) + 2 ≡ suc (length t + 2) = omega arith in rw e (drop_append t r)

cut_at : (s t r : List ℕ) (i : ℕ) → Plain t → drop i s ≡ t ++ 13 ∷ r → text_at s i ≡ t
unfolding text_at
cut_at s t r i p e = rw e (cut_text t r p)

cut_next : (s t r : List ℕ) (i j : ℕ) → drop i s ≡ t ++ 13 ∷ 10 ∷ r → i + (length t + 2) ≡ j → drop j s ≡ r
cut_next s t r i j e h = rw (← h, ← drop-drop (length t + 2) i s, e) (drop_append t r)

cut_more : (s : List ℕ) (b : ℕ) (t r : List ℕ) (ts : List (List ℕ)) (i : ℕ) → Plain (b ∷ t) → drop i s ≡ b ∷ t ++ 13 ∷ 10 ∷ r → Cut s ts (starts (suc i + length t + 2) r)
    → Cut s ((b ∷ t) ∷ ts) (i ∷ inside (suc i) (t ++ 13 ∷ 10 ∷ r))
cut_more s b t r ts i p e m =
    let a : text_at s i ≡ b ∷ t = cut_at s (b ∷ t) (10 ∷ r) i p e in
    rw (inside_plain t r (suc i) p.1)
    (record { texts_are = rw a (ap (λ (l : List (List ℕ)). (b ∷ t) ∷ l) m.texts_are); filled = (omega (arith, length-drop i s, ap length e, length-append (b ∷ t) (13 ∷ 10 ∷ r)), rw a, m.filled) })

cut_from : (s : List ℕ) (ts : List (List ℕ)) (i : ℕ) → Each Note ts → drop i s ≡ joined ts → Cut s ts (starts i (joined ts))
cut_from s [] i g e = record { texts_are = refl; filled = tt }
cut_from s ([] ∷ ts) i g e = absurd g.0
cut_from s ((b ∷ t) ∷ ts) i g e =
    rw g.0.0
    (cut_more s b t (joined ts) ts i g.0 e
    (cut_from s ts (suc i + length t + 2) g.1 (cut_next s (b ∷ t) (joined ts) i (suc i + length t + 2) e (omega arith))))

text_end_lem : (s : List ℕ) → text_at s (length s) ≡ []
unfolding text_at
text_end_lem s = rw (drop-length s)

after_filled : (s xs : List ℕ) → Filled s xs → after (earlier s) (length s) xs ≡ xs
after_filled s [] f = refl
after_filled s (x ∷ xs) f =
    let e : earlier s x (length s) ≡ false = rw (earlier_up s x (length s) f.0, text_end_lem s) f.1 in
    rw e (ap (λ (l : List ℕ). x ∷ l) (after_filled s xs f.2))

-- the texts of what comes after the end of the slice, where the empty text stands: all notes, in order
pub whole : (ts : List (List ℕ)) → Each Note ts → map (text_at (joined ts)) (rest (earlier (joined ts)) (length (joined ts)) (starts 0 (joined ts))) ≡ in_order not_after ts
unfolding rest
whole ts g =
    let s = joined ts in
    let c : Cut s ts (starts 0 s) = cut_from s ts 0 g refl in
    rw (after_filled s (starts 0 s) c.filled) (sorted_texts s (starts 0 s) ∙ ap (in_order not_after) c.texts_are)
