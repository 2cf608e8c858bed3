-- Where a body fits: a body in the way moves the search to its end, and loses no start. Assumes nothing.
use Rattle.std.specs.Prelude.{None, Some}
use Prim.Native.Nat.{ℕ, ◌+◌, ◌-◌, ◌≤◌, ◌<◌}
use mathlib.Core.Bool.{true, false, not, and-false}
use mathlib.Core.List.{List}
use mathlib.Core.Logic.{◌⊎◌}
use mathlib.Core.Path.{◌≡◌, sym, ◌∙◌}
use native.Mathlib.Omega.{arith}
use borrow.Author.Tests.{leb-true, leb-false, le-leb, lt-leb, not-true, not-false}
use lib.Dec.{leb}
use lib.ListN.{length}
use Rattle.rules.proofs.Inverse.{and_inv, or_neither}
use Rattle.shelf_rules.specs.Ranges.{least, every}
use Rattle.shelf_rules.specs.Contents.{start_of, end_of, clear}
use Rattle.shelf_rules.specs.Shelf.{clear_of, fits, blocker_of, place_for}
use Rattle.shelf_rules.proofs.Tests.{by_le, both}
use Rattle.shelf_rules.proofs.Ranges.{every_at, every_of, every_not, least_skip, least_hit, least_over, least_some, least_none}
use Rattle.shelf_rules.proofs.Sounds.{clear_apart}

-- runs that overlap
pub overlap : (a e a' e' : ℕ) → clear a e a' e' ≡ false → (a' < e) × (a < e')
overlap a e a' e' h = let r = or_neither (leb e a') (leb e' a) h in (leb-false e a' r.0, leb-false e' a r.1)

pub overlaps : (a e a' e' : ℕ) → a' < e → a < e' → clear a e a' e' ≡ false
overlaps a e a' e' p q = rw (lt-leb e a' p, lt-leb e' a q)

module _ (b : List ℕ) (size at : ℕ) where
  -- what fits
  pub record Fits : Type 0 where
    pub inside : at + size ≤ length b
    pub apart : (n : ℕ) → n < 64 → (at + size ≤ start_of b n) ⊎ (end_of b n ≤ at)

  pub fits_read : fits b size at ≡ true → Fits
  unfolding fits
  fits_read e = record {
    inside = leb-true (at + size) (length b) (and_inv (leb (at + size) (length b)) (every (clear_of b size at) 64) e).0;
    apart = λ n p. clear_apart at (at + size) (start_of b n) (end_of b n)
        (every_at (clear_of b size at) 64 (and_inv (leb (at + size) (length b)) (every (clear_of b size at) 64) e).1 n p);
  }

  pub fits_over : length b < at + size → fits b size at ≡ false
  unfolding fits
  fits_over h = rw (lt-leb (at + size) (length b) h)

  pub fits_here : at + size ≤ length b → blocker_of b size at ≡ None → fits b size at ≡ true
  unfolding fits blocker_of
  fits_here h e =
      both (leb (at + size) (length b)) (every (clear_of b size at) 64) (le-leb (at + size) (length b) h)
      (every_of (clear_of b size at) 64 λ n p.
      not-false (clear_of b size at n) (least_none (λ m. not (clear_of b size at m)) 0 64 e n (omega arith) p))

  -- a body in the way
  pub record Blocks (n : ℕ) : Type 0 where
    pub entry : n < 64
    pub low : start_of b n < at + size
    pub high : at < end_of b n

  pub blocks : (n : ℕ) → blocker_of b size at ≡ Some n → Blocks n
  unfolding blocker_of
  blocks n e =
      let l = least_some (λ m. not (clear_of b size at m)) 0 64 n e in
      let o = overlap at (at + size) (start_of b n) (end_of b n) (not-true (clear_of b size at n) l.passes) in
      record { entry = l.high; low = o.0; high = o.1 }

-- nothing fits before its end
pub fits_blocked : (b : List ℕ) (size at n u : ℕ) → Blocks b size at n → at ≤ u → u < end_of b n → fits b size u ≡ false
unfolding fits
fits_blocked b size at n u k p q =
    rw (every_not (clear_of b size u) 64 n k.entry (overlaps u (u + size) (start_of b n) (end_of b n) (omega (arith, k.low)) q))
    (and-false (leb (u + size) (length b)))

-- the search from a start on decides as the whole search: one turn, and its three ends
module _ (b : List ℕ) (size at : ℕ) where
  pub place_turn : (n : ℕ) → blocker_of b size at ≡ Some n → least (fits b size) at (length b - at) ≡ least (fits b size) (end_of b n) (length b - end_of b n)
  place_turn n e =
      let k = blocks b size at n e in
      by_le (end_of b n) (length b)
      (λ h. let p : at + (end_of b n - at) ≡ end_of b n = omega (arith, k.high) in
      let q : length b - at - (end_of b n - at) ≡ length b - end_of b n = omega (arith, k.high) in
      let s = least_skip (fits b size) at (length b - at) (end_of b n - at) (omega arith) (λ u g f. fits_blocked b size at n u k g (omega arith)) in
      rw (p, q) at s)
      (λ h. least_over (fits b size) at (length b - at) (λ u g f. fits_blocked b size at n u k g (omega arith))
      ∙ sym (least_over (fits b size) (end_of b n) (length b - end_of b n) (λ u g f. absurd (omega arith))))

  pub place_here : at < length b → size ≤ length b - at → blocker_of b size at ≡ None → least (fits b size) at (length b - at) ≡ Some at
  place_here g h e = least_hit (fits b size) at (length b - at) (omega arith) (fits_here b size at (omega arith) e)

  pub place_over : length b - at < size → least (fits b size) at (length b - at) ≡ None
  place_over h = least_over (fits b size) at (length b - at) (λ u p q. fits_over b size u (omega arith))

  pub place_end : length b ≤ at → least (fits b size) at (length b - at) ≡ None
  place_end h = least_over (fits b size) at (length b - at) (λ u p q. absurd (omega arith))

-- "the smallest start where it fits"
pub place_smallest : (b : List ℕ) (size at : ℕ) → place_for b size ≡ Some at
    → (768 ≤ at) × (Fits b size at) × ((u : ℕ) → 768 ≤ u → u < at → fits b size u ≡ false)
unfolding place_for
place_smallest b size at e =
    let l = least_some (fits b size) 768 (length b - 768) at e in
    (l.low, fits_read b size at l.passes, l.first)
