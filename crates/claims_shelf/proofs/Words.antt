-- The words of a shelf and the tests that compute them: the rules, an entry by its number, a free run and the smallest start. Assumes nothing.
use Rattle.std.specs.Prelude.{None, Some}
use Prim.Native.Nat.{ℕ, ◌+◌, ◌*◌, ◌-◌, ◌≤◌, ◌<◌}
use mathlib.Core.Bool.{Bool, true, false}
use mathlib.Core.List.{List}
use mathlib.Core.Logic.{◌⊎◌, inl, inr, ◌↔◌, ⊎_elim}
use mathlib.Core.Path.{◌≡◌, sym, ◌∙◌}
use native.Mathlib.Omega.{arith}
use borrow.Author.Tests.{eqb-true, eqb-false, eq-eqb, ne_eqb, le-leb}
use lib.Dec.{eqb, leb}
use lib.ListN.{length, get_or}
use Rattle.rules.proofs.Inverse.{false_true, by_bool}
use Rattle.shelf_rules.specs.Ranges.{least, every}
use Rattle.shelf_rules.specs.Contents.{word, number_of, start_of, size_of, end_of, sound, Sound}
use Rattle.shelf_rules.specs.Shelf.{entry_of, clear_of, fits, place_for}
use Rattle.shelf_rules.proofs.Tests.{by_eq, by_le, both}
use Rattle.shelf_rules.proofs.Ranges.{Least, least_skip, least_hit, least_some, least_none, least_over, every_of}
use Rattle.shelf_rules.proofs.Sounds.{sound_read, sound_told, apart_clear, apart_any, once_any}
use Rattle.shelf_rules.proofs.Places.{fits_read}
use Rattle.claims_shelf.specs.Weekend.{InBody, IsShelf, InUse, FreeRun, Smallest}

-- ---- the rules

-- a word is 0 just when its bytes are
word_zero : (b : List ℕ) (at : ℕ) → word b at ≡ 0 → (i : ℕ) → i < 4 → get_or b (at + i) 0 ≡ 0
unfolding word
word_zero b at e i h =
    by_eq i 0 (λ g. let f : at + i ≡ at = omega arith in rw f (omega arith)) λ g₀.
    by_eq i 1 (λ g. rw g (omega arith)) λ g₁.
    by_eq i 2 (λ g. rw g (omega arith)) λ g₂.
    let g : i ≡ 3 = omega arith in rw g (omega arith)

zero_word : (b : List ℕ) (at : ℕ) → ((i : ℕ) → i < 4 → get_or b (at + i) 0 ≡ 0) → word b at ≡ 0
unfolding word
zero_word b at f =
    let e : at + 0 ≡ at = omega arith in
    let z = rw e at (f 0 (omega arith)) in
    rw (z, f 1 (omega arith), f 2 (omega arith), f 3 (omega arith))

module _ (b : List ℕ) (s : Sound b) where
  free_bytes : (n : ℕ) → n < 64 → number_of b n ≡ 0 → (i : ℕ) → i < 12 → get_or b (12 * n + i) 0 ≡ 0
  free_bytes n p z i h =
      let f = s.kept.free n p z in
      by_le 4 i
      (λ g. by_le 8 i
      (λ k. let e : 12 * n + i ≡ 12 * n + 8 + (i - 8) = omega arith in rw e (word_zero b (12 * n + 8) f.1 (i - 8) (omega arith)))
      (λ k. let e : 12 * n + i ≡ 12 * n + 4 + (i - 4) = omega arith in rw e (word_zero b (12 * n + 4) f.0 (i - 4) (omega arith))))
      (λ g. word_zero b (12 * n) z i g)

  none_shared : (n m i : ℕ) → InBody b n i → InBody b m i → (n ≡ m → ⊥) → ⊥
  none_shared n m i x y d = ⊎_elim
      (λ (g : end_of b n ≤ start_of b m). omega (arith, x.among.1, y.among.0, g))
      (λ (g : end_of b m ≤ start_of b n). omega (arith, y.among.1, x.among.0, g))
      (apart_any s.kept n m x.entry y.entry d)

  pub sound_keeps : IsShelf b
  sound_keeps = record {
    least_room = s.least_room;
    most_room = s.most_room;
    free = free_bytes;
    some_byte = λ n p u. (start_of b n, record { entry = p; used = u; among = (omega arith, let g = s.kept.some_byte n p u in omega arith) });
    inside = λ n i x.
        let f = s.kept.from_768 n x.entry x.used in
        let g = s.kept.inside n x.entry x.used in
        (omega (arith, x.among.0), omega (arith, x.among.1));
    apart = λ n m i x y. by_eq n m (λ e. e) (λ d. absurd (none_shared n m i x y d));
    once = λ n m p q u e. by_eq n m (λ g. g) (λ d. absurd (u (once_any s.kept n m p q d e)));
  }

module _ (b : List ℕ) (k : IsShelf b) where
  -- a body's first and last byte
  used_size : (n : ℕ) → n < 64 → (number_of b n ≡ 0 → ⊥) → 1 ≤ size_of b n
  used_size n p u = let x = k.some_byte n p u in omega (arith, x.1.among.0, x.1.among.1)

  first_byte : (n : ℕ) (p : n < 64) (u : number_of b n ≡ 0 → ⊥) → InBody b n (start_of b n)
  first_byte n p u = record { entry = p; used = u; among = (omega arith, let g = used_size n p u in omega arith) }

  last_byte : (n : ℕ) (p : n < 64) (u : number_of b n ≡ 0 → ⊥) → InBody b n (end_of b n - 1)
  last_byte n p u = let g = used_size n p u in record { entry = p; used = u; among = (omega arith, omega arith) }

  free_words : (n : ℕ) → n < 64 → number_of b n ≡ 0 → (start_of b n ≡ 0) × (size_of b n ≡ 0)
  free_words n p z = (
    zero_word b (12 * n + 4) (λ i h. let e : 12 * n + 4 + i ≡ 12 * n + (4 + i) = omega arith in rw e (k.free n p z (4 + i) (omega arith))),
    zero_word b (12 * n + 8) (λ i h. let e : 12 * n + 8 + i ≡ 12 * n + (8 + i) = omega arith in rw e (k.free n p z (8 + i) (omega arith))),
  )

  -- of two bodies that overlap, the later start is a byte of both
  apart_used : (n m : ℕ) → n < 64 → m < 64 → (n ≡ m → ⊥) → (number_of b n ≡ 0 → ⊥) → (number_of b m ≡ 0 → ⊥) → (end_of b n ≤ start_of b m) ⊎ (end_of b m ≤ start_of b n)
  apart_used n m p q d u v =
      by_le (end_of b n) (start_of b m) (λ g. inl g) λ g.
      by_le (end_of b m) (start_of b n) (λ h. inr h) λ h.
      absurd (d (by_le (start_of b n) (start_of b m)
      (λ f. k.apart n m (start_of b m) (record { entry = p; used = u; among = (f, g) }) (first_byte m q v))
      (λ f. k.apart n m (start_of b n) (first_byte n p u) (record { entry = q; used = v; among = (omega arith, h) }))))

  pub keeps_sound : Sound b
  keeps_sound = record {
    least_room = k.least_room;
    most_room = k.most_room;
    kept = record {
      free = free_words;
      some_byte = used_size;
      from_768 = λ n p u. (k.inside n (start_of b n) (first_byte n p u)).0;
      inside = λ n p u. let g = used_size n p u in let h = k.inside n (end_of b n - 1) (last_byte n p u) in omega (arith, h.1);
      apart = λ n m p h. by_eq (number_of b n) 0
          (λ z. let f = free_words n p z in inl (omega (arith, f.0, f.1)))
          (λ u. by_eq (number_of b m) 0
          (λ z. let f = free_words m (omega arith) z in inr (omega (arith, f.0, f.1)))
          (λ v. apart_used n m p (omega arith) (λ e. omega arith) u v));
      once = λ n m p h e. by_eq (number_of b n) 0 (λ z. z) (λ u. let g = k.once n m p (omega arith) u e in absurd (omega arith));
    };
  }

pub keeps_exactly : (b : List ℕ) → (sound b ≡ true) ↔ IsShelf b
keeps_exactly b = (λ e. sound_keeps b (sound_read b e), λ k. sound_told b (keeps_sound b k))

-- the rules broken
pub breaks_exactly : (b : List ℕ) → (sound b ≡ false) ↔ (IsShelf b → ⊥)
breaks_exactly b = (
  (λ e k. false_true (sym e ∙ (keeps_exactly b).1 k)),
  (λ f. by_bool (sound b) (λ e. absurd (f ((keeps_exactly b).0 e))) (λ e. e)),
)

-- ---- the least

pub least_is : (test : ℕ → Bool) (at k v : ℕ) → Least test at k v → least test at k ≡ Some v
least_is test at k v l =
    let d = v - at in
    let e : at + (v - at) ≡ v = omega (arith, l.low) in
    let s = least_skip test at k (v - at) (omega (arith, l.low, l.high)) (λ u p q. l.first u p (omega arith)) in
    rw e at s ∙ least_hit test v (k - (v - at)) (omega (arith, l.low, l.high)) l.passes

-- ---- an entry by its number

module _ (b : List ℕ) (x : ℕ) where
  abbrev has : ℕ → Bool
  has n = eqb (number_of b n) x

  pub entry_exactly : (k : ℕ) → (entry_of b x ≡ Some k) ↔ ((k < 64) × (number_of b k ≡ x) × ((n : ℕ) → n < k → number_of b n ≡ x → ⊥))
  unfolding entry_of
  entry_exactly k = (
    (λ e.
        let l = least_some has 0 64 k e in
        (l.high, eqb-true (number_of b k) x l.passes, λ n h. eqb-false (number_of b n) x (l.first n (omega arith) h))),
    (λ w. least_is has 0 64 k (record {
      low = omega arith;
      high = w.0;
      passes = eq-eqb (number_of b k) x w.1;
      first = λ u p q. ne_eqb (number_of b u) x (w.2 u q);
    })),
  )

  pub no_entry_exactly : (entry_of b x ≡ None) ↔ (InUse b x → ⊥)
  unfolding entry_of
  no_entry_exactly = (
    (λ e w. eqb-false (number_of b w.0) x (least_none has 0 64 e w.0 (omega arith) w.1) w.2),
    (λ f. least_over has 0 64 (λ u p q. ne_eqb (number_of b u) x (λ e. f (u, q, e)))),
  )

-- ---- a free run

module _ (b : List ℕ) (s : Sound b) (size : ℕ) (one : 1 ≤ size) where
  run_apart : (at : ℕ) → FreeRun b at size → (n : ℕ) → n < 64 → (at + size ≤ start_of b n) ⊎ (end_of b n ≤ at)
  run_apart at r n p =
      by_eq (number_of b n) 0
      (λ z. let f = s.kept.free n p z in inr (omega (arith, f.0, f.1)))
      (λ u.
      let g = s.kept.some_byte n p u in
      by_le (at + size) (start_of b n) (λ h. inl h) λ h.
      by_le (end_of b n) at (λ k. inr k) λ k.
      absurd (by_le at (start_of b n)
      (λ f. r.free n (start_of b n) (f, h) (record { entry = p; used = u; among = (omega arith, omega arith) }))
      (λ f. r.free n at (omega arith, omega arith) (record { entry = p; used = u; among = (omega arith, k) }))))

  pub fits_exactly : (at : ℕ) → 768 ≤ at → (fits b size at ≡ true) ↔ FreeRun b at size
  unfolding fits
  fits_exactly at low = (
    (λ e.
        let f = fits_read b size at e in
        record {
          from_768 = low;
          inside = omega (arith, f.inside);
          free = λ n i a x. ⊎_elim
              (λ (g : at + size ≤ start_of b n). omega (arith, a.1, x.among.0, g))
              (λ (g : end_of b n ≤ at). omega (arith, a.0, x.among.1, g))
              (f.apart n x.entry);
        }),
    (λ r.
        both (leb (at + size) (length b)) (every (clear_of b size at) 64) (le-leb (at + size) (length b) (omega (arith, r.inside)))
        (every_of (clear_of b size at) 64 λ n p. apart_clear at (at + size) (start_of b n) (end_of b n) (run_apart at r n p))),
  )

  fits_not : (at : ℕ) → 768 ≤ at → (FreeRun b at size → ⊥) → fits b size at ≡ false
  fits_not at low f = by_bool (fits b size at) (λ e. absurd (f ((fits_exactly at low).0 e))) (λ e. e)

  pub place_exactly : (at : ℕ) → (place_for b size ≡ Some at) ↔ Smallest b size at
  unfolding place_for
  place_exactly at = (
    (λ e.
        let l = least_some (fits b size) 768 (length b - 768) at e in (
          (fits_exactly at l.low).0 l.passes,
          λ a r. by_le at a (λ h. h)
              (λ h. absurd (false_true (sym (l.first a r.from_768 h) ∙ (fits_exactly a r.from_768).1 r))),
        )),
    (λ w. least_is (fits b size) 768 (length b - 768) at (record {
      low = w.0.from_768;
      high = omega (arith, w.0.from_768, w.0.inside);
      passes = (fits_exactly at w.0.from_768).1 w.0;
      first = λ u p q. fits_not u p (λ r. let h = w.1 u r in omega arith);
    })),
  )

  pub no_place_exactly : (place_for b size ≡ None) ↔ ((at : ℕ) → FreeRun b at size → ⊥)
  unfolding place_for
  no_place_exactly = (
    (λ e at r. false_true (sym (least_none (fits b size) 768 (length b - 768) e at r.from_768 (omega (arith, r.from_768, r.inside))) ∙ (fits_exactly at r.from_768).1 r)),
    (λ f. least_over (fits b size) 768 (length b - 768) (λ u p q. fits_not u p (f u))),
  )
