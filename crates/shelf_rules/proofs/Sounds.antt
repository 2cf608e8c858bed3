-- The test of soundness says what is read aloud. Assumes nothing.
use Prim.Native.Nat.{ℕ, ◌+◌, ◌≤◌, ◌<◌}
use mathlib.Core.Bool.{true, not, ◌&&◌, ◌||◌}
use mathlib.Core.List.{List}
use mathlib.Core.Logic.{◌⊎◌, inl, inr, ◌↔◌, ⊎_elim}
use mathlib.Core.Path.{◌≡◌, sym, ◌∙◌}
use native.Mathlib.Omega.{arith}
use borrow.Author.Tests.{eqb-true, leb-true, le-leb, eq-eqb, ne_eqb}
use lib.Dec.{eqb, leb}
use lib.ListN.{length}
use Rattle.rules.proofs.Inverse.{and_inv}
use Rattle.shelf_rules.specs.Ranges.{every}
use Rattle.shelf_rules.specs.Contents.{number_of, start_of, size_of, end_of, one_kept, slot_kept, clear, two_kept, pair_kept, slot_sound, sound, Kept, Sound}
use Rattle.shelf_rules.proofs.Tests.{by_eq, by_le, or_cases, or_left, or_right, both}
use Rattle.shelf_rules.proofs.Ranges.{every_at, every_of}

-- runs that don't overlap
pub clear_apart : (a e a' e' : ℕ) → clear a e a' e' ≡ true → (e ≤ a') ⊎ (e' ≤ a)
clear_apart a e a' e' h = told (or_cases (leb e a') (leb e' a) h)
  where
    told : (leb e a' ≡ true) ⊎ (leb e' a ≡ true) → (e ≤ a') ⊎ (e' ≤ a)
    told (inl g) = inl (leb-true e a' g)
    told (inr g) = inr (leb-true e' a g)

pub apart_clear : (a e a' e' : ℕ) → (e ≤ a') ⊎ (e' ≤ a) → clear a e a' e' ≡ true
apart_clear a e a' e' (inl g) = or_left (leb e a') (leb e' a) (le-leb e a' g)
apart_clear a e a' e' (inr g) = or_right (leb e a') (leb e' a) (le-leb e' a g)

-- ---- the test holds of what is read aloud, and only of that

module _ (b : List ℕ) (n : ℕ) (h : slot_kept b n ≡ true) where
  slot_free : number_of b n ≡ 0 → (start_of b n ≡ 0) × (size_of b n ≡ 0)
  unfolding one_kept
  slot_free z =
      let g = rw (eq-eqb (number_of b n) 0 z) at h in (
        eqb-true (start_of b n) 0 (and_inv (eqb (start_of b n) 0) (eqb (size_of b n) 0) g).0,
        eqb-true (size_of b n) 0 (and_inv (eqb (start_of b n) 0) (eqb (size_of b n) 0) g).1,
      )

  slot_used : (number_of b n ≡ 0 → ⊥) → (1 ≤ size_of b n) × (768 ≤ start_of b n) × (end_of b n ≤ length b)
  unfolding one_kept
  slot_used z =
      let g = rw (ne_eqb (number_of b n) 0 z) at h in
      let r = (and_inv (leb 1 (size_of b n)) (leb 768 (start_of b n) && leb (end_of b n) (length b)) g).1 in (
        leb-true 1 (size_of b n) (and_inv (leb 1 (size_of b n)) (leb 768 (start_of b n) && leb (end_of b n) (length b)) g).0,
        leb-true 768 (start_of b n) (and_inv (leb 768 (start_of b n)) (leb (end_of b n) (length b)) r).0,
        leb-true (end_of b n) (length b) (and_inv (leb 768 (start_of b n)) (leb (end_of b n) (length b)) r).1,
      )

module _ (b : List ℕ) (n m : ℕ) (h : pair_kept b n m ≡ true) where
  pair_apart : (end_of b n ≤ start_of b m) ⊎ (end_of b m ≤ start_of b n)
  unfolding two_kept
  pair_apart =
      clear_apart (start_of b n) (end_of b n) (start_of b m) (end_of b m)
      (and_inv (clear (start_of b n) (end_of b n) (start_of b m) (end_of b m)) (eqb (number_of b n) 0 || not (eqb (number_of b n) (number_of b m))) h).0

  pair_once : number_of b n ≡ number_of b m → number_of b n ≡ 0
  unfolding two_kept
  pair_once e = told (or_cases (eqb (number_of b n) 0) (not (eqb (number_of b n) (number_of b m)))
      (and_inv (clear (start_of b n) (end_of b n) (start_of b m) (end_of b m)) (eqb (number_of b n) 0 || not (eqb (number_of b n) (number_of b m))) h).1)
    where
      told : (eqb (number_of b n) 0 ≡ true) ⊎ (not (eqb (number_of b n) (number_of b m)) ≡ true) → number_of b n ≡ 0
      told (inl g) = eqb-true (number_of b n) 0 g
      told (inr g) =
          let z = rw (eq-eqb (number_of b n) (number_of b m) e) at g in
          let w : ◌≡◌ {A = ℕ} 0 1 = cc in absurd (omega arith)

pub sound_read : (b : List ℕ) → sound b ≡ true → Sound b
unfolding sound slot_sound
sound_read b e =
    let r = (and_inv (leb 768 (length b)) (leb (length b) 16777216 && every (slot_sound b) 64) e).1 in
    let s : (n : ℕ) → n < 64 → slot_sound b n ≡ true = every_at (slot_sound b) 64 (and_inv (leb (length b) 16777216) (every (slot_sound b) 64) r).1 in
    let k : (n : ℕ) → n < 64 → slot_kept b n ≡ true = λ n p. (and_inv (slot_kept b n) (every (pair_kept b n) n) (s n p)).0 in
    let q : (n m : ℕ) → n < 64 → m < n → pair_kept b n m ≡ true =
    λ n m p. every_at (pair_kept b n) n (and_inv (slot_kept b n) (every (pair_kept b n) n) (s n p)).1 m in
    record {
      least_room = leb-true 768 (length b) (and_inv (leb 768 (length b)) (leb (length b) 16777216 && every (slot_sound b) 64) e).0;
      most_room = leb-true (length b) 16777216 (and_inv (leb (length b) 16777216) (every (slot_sound b) 64) r).0;
      kept = record {
        free = λ n p. slot_free b n (k n p);
        some_byte = λ n p z. (slot_used b n (k n p) z).0;
        from_768 = λ n p z. (slot_used b n (k n p) z).1;
        inside = λ n p z. (slot_used b n (k n p) z).2;
        apart = λ n m p g. pair_apart b n m (q n m p g);
        once = λ n m p g. pair_once b n m (q n m p g);
      };
    }

module _ (b : List ℕ) (s : Sound b) where
  kept_slot : (n : ℕ) → n < 64 → slot_kept b n ≡ true
  unfolding one_kept
  kept_slot n p =
      by_eq (number_of b n) 0
      (λ z. rw (eq-eqb (number_of b n) 0 z)
      (both (eqb (start_of b n) 0) (eqb (size_of b n) 0) (eq-eqb (start_of b n) 0 (s.kept.free n p z).0) (eq-eqb (size_of b n) 0 (s.kept.free n p z).1)))
      (λ z. rw (ne_eqb (number_of b n) 0 z)
      (both (leb 1 (size_of b n)) (leb 768 (start_of b n) && leb (end_of b n) (length b)) (le-leb 1 (size_of b n) (s.kept.some_byte n p z))
      (both (leb 768 (start_of b n)) (leb (end_of b n) (length b)) (le-leb 768 (start_of b n) (s.kept.from_768 n p z)) (le-leb (end_of b n) (length b) (s.kept.inside n p z)))))

  kept_pair : (n m : ℕ) → n < 64 → m < n → pair_kept b n m ≡ true
  unfolding two_kept
  kept_pair n m p g =
      both (clear (start_of b n) (end_of b n) (start_of b m) (end_of b m)) (eqb (number_of b n) 0 || not (eqb (number_of b n) (number_of b m)))
      (apart_clear (start_of b n) (end_of b n) (start_of b m) (end_of b m) (s.kept.apart n m p g))
      (by_eq (number_of b n) (number_of b m)
      (λ e. or_left (eqb (number_of b n) 0) (not (eqb (number_of b n) (number_of b m))) (eq-eqb (number_of b n) 0 (s.kept.once n m p g e)))
      (λ e. or_right (eqb (number_of b n) 0) (not (eqb (number_of b n) (number_of b m))) (rw (ne_eqb (number_of b n) (number_of b m) e))))

  pub sound_told : sound b ≡ true
  unfolding sound slot_sound
  sound_told =
      both (leb 768 (length b)) (leb (length b) 16777216 && every (slot_sound b) 64) (le-leb 768 (length b) s.least_room)
      (both (leb (length b) 16777216) (every (slot_sound b) 64) (le-leb (length b) 16777216 s.most_room)
      (every_of (slot_sound b) 64 λ n p. both (slot_kept b n) (every (pair_kept b n) n) (kept_slot n p) (every_of (pair_kept b n) n λ m g. kept_pair n m p g)))

-- "27 SHELF if the buffer breaks these rules": exactly then
pub sound_exact : (b : List ℕ) → (sound b ≡ true) ↔ Sound b
sound_exact b = (sound_read b, sound_told b)

-- ---- two entries of a table that is kept, in either order

module _ {number start size : ℕ → ℕ} {room : ℕ} (s : Kept number start size room) (n m : ℕ) (p : n < 64) (q : m < 64) (d : n ≡ m → ⊥) where
  pub apart_any : (start n + size n ≤ start m) ⊎ (start m + size m ≤ start n)
  apart_any = by_le m n
      (λ h. s.apart n m p (omega arith))
      (λ h. ⊎_elim inr inl (s.apart m n q h))

  pub once_any : number n ≡ number m → number n ≡ 0
  once_any e = by_le m n
      (λ h. s.once n m p (omega arith) e)
      (λ h. e ∙ s.once m n q h (sym e))
