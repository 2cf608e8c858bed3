-- Bytes within their bounds, a byte at a time. Assumes nothing.
use Prim.Native.Nat.{ℕ, zero, suc, ◌+◌, ◌≤◌, ◌<◌}
use mathlib.Core.Bool.{Bool, true, false, ◌&&◌, and-true, and_assoc}
use mathlib.Core.List.{List, [], ◌∷◌}
use mathlib.Core.Path.{◌≡◌, refl, sym, ap, ◌∙◌}
use native.Mathlib.Omega.{arith}
use borrow.Author.Tests.{le-leb}
use lib.Dec.{leb}
use lib.ListN.{length, get_or, set, drop, drop_of_length-le}
use lib.Seq.{drop-cons}
use Rattle.rules.proofs.Inverse.{and_inv}
use Rattle.check_front.specs.Front.{is_within, between}

-- a text that ends before its bounds do
pub between_short : (low high l : List ℕ) → length l < length low → false ≡ between low high l
unfolding between
between_short [] high l h = let z : ⊥ = omega arith in search
between_short (a ∷ low) [] l h = refl
between_short (a ∷ low) (z ∷ high) [] h = refl
between_short (a ∷ low) (z ∷ high) (b ∷ l) h = by (is_within a z b) (between_short low high l (omega arith))
  where
    by : (t : Bool) → false ≡ between low high l → false ≡ (t && between low high l)
    by true e = e
    by false e = refl

module _ (low high l : List ℕ) (at i : ℕ) (ok whole : Bool) (e : (ok && between (drop i low) (drop i high) (drop (at + i) l)) ≡ whole) where
  step : i < length low → i < length high → at + i < length l
      → between (drop i low) (drop i high) (drop (at + i) l) ≡ (is_within (get_or low i 0) (get_or high i 0) (get_or l (at + i) 0) && between (drop (i + 1) low) (drop (i + 1) high) (drop (at + (i + 1)) l))
  unfolding between
  step g h k =
      let one : i + 1 ≡ suc i = omega arith in
      let next : at + suc i ≡ suc (at + i) = omega arith in
      rw (one, next, drop-cons low i 0 g, drop-cons high i 0 h, drop-cons l (at + i) 0 k)

  pub between_step : (r : Bool) → i < length low → i < length high → at + i < length l → r ≡ (ok && is_within (get_or low i 0) (get_or high i 0) (get_or l (at + i) 0))
      → (r && between (drop (i + 1) low) (drop (i + 1) high) (drop (at + (i + 1)) l)) ≡ whole
  between_step r g h k q = rw q (and_assoc ok _ _ ∙ ap (λ (x : Bool). ok && x) (sym (step g h k)) ∙ e)

  pub between_end : length low ≤ i → ok ≡ whole
  unfolding between
  between_end h = sym (and-true ok) ∙ rw (drop_of_length-le low {i = i} h) at e

-- the bounds from a place on
pub between_drop : (k : ℕ) (low high l : List ℕ) → between low high l ≡ true → between (drop k low) (drop k high) (drop k l) ≡ true
unfolding between
between_drop zero low high l e = e
between_drop (suc k) [] high l e = refl
between_drop (suc k) (a ∷ low) [] l e = let z : ◌≡◌ {A = ℕ} 0 1 = cc in absurd (omega arith)
between_drop (suc k) (a ∷ low) (z ∷ high) [] e = let z : ◌≡◌ {A = ℕ} 0 1 = cc in absurd (omega arith)
between_drop (suc k) (a ∷ low) (z ∷ high) (b ∷ l) e = between_drop k low high l (and_inv (is_within a z b) (between low high l) e).1

-- a byte that is no more than z is within the bounds with z as its upper one
pub tighter : (k z : ℕ) (low high l : List ℕ) → between low high l ≡ true → get_or l k 0 ≤ z → between low (set high k z) l ≡ true
unfolding between is_within
tighter k z [] high l e h = refl
tighter k z (a ∷ low) [] l e h = let w : ◌≡◌ {A = ℕ} 0 1 = cc in absurd (omega arith)
tighter k z (a ∷ low) (y ∷ high) [] e h = let w : ◌≡◌ {A = ℕ} 0 1 = cc in absurd (omega arith)
tighter zero z (a ∷ low) (y ∷ high) (b ∷ l) e h =
    let here = and_inv (leb a b && leb b y) (between low high l) e in
    let both = and_inv (leb a b) (leb b y) here.0 in
    rw (both.0, le-leb b z h) here.1
tighter (suc k) z (a ∷ low) (y ∷ high) (b ∷ l) e h =
    let here = and_inv (leb a b && leb b y) (between low high l) e in
    rw here.0 (tighter k z low high l here.1 h)
