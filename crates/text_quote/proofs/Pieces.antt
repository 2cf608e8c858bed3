-- What the pieces of a quoted line put into a buffer, one after the other, in the forms that `search` finds. Assumes nothing.
use Prim.Native.Nat.{ℕ, ◌+◌, ◌-◌, ◌≤◌, ◌<◌, min}
use mathlib.Core.Bool.{Bool, true, false, cond}
use mathlib.Core.List.{List, [], ◌∷◌, ◌++◌, map}
use mathlib.Core.Path.{◌≡◌, refl, sym, ap}
use native.Mathlib.Numerals.{add-one}
use native.Mathlib.Omega.{arith}
use borrow.Author.Tests.{leb-true, leb-false, eq-eqb, ne_eqb}
use lib.Dec.{leb}
use lib.ListN.{length, get_or, take, drop, replicate, replicate-append-replicate}
use lib.Seq.{take-suc, take_all}
use Rattle.text_pieces.specs.Buffer.{PiecePut}
use Rattle.text_pieces.proofs.Laws.{then, nothing}
use Rattle.text_quote.specs.Quote.{visible, before, window, window_line, caret_line, quote}

-- ---- the bytes shown

map_snoc : (f : ℕ → ℕ) (l : List ℕ) (a : ℕ) → map f (l ++ (a ∷ [])) ≡ map f l ++ (f a ∷ [])
map_snoc f [] a = refl
map_snoc f (x ∷ l) a = ap (λ (r : List ℕ). f x ∷ r) (map_snoc f l a)

pub visible_more : (l : List ℕ) (i : ℕ) → i < length l → map visible (take (i + 1) l) ≡ map visible (take i l) ++ (visible (get_or l i 0) ∷ [])
visible_more l i h = rw (add-one, take-suc l i 0 h) (map_snoc visible (take i l) (get_or l i 0))

pub space_more : (i : ℕ) → replicate {A = ℕ} (i + 1) 32 ≡ replicate i 32 ++ (32 ∷ [])
space_more i = sym (replicate-append-replicate {A = ℕ} i 1 32)

-- at most 80 of the bytes from a place on
pub window_shown : (l rest : List ℕ) (b from n : ℕ) → from ≡ before b → rest ≡ drop from l → n ≡ min (length rest) 80 → take n rest ≡ window b l
unfolding window
window_shown l rest b from n e f g = rw (← e, ← f) (by (leb (length rest) 80) refl)
  where
    by : (t : Bool) → leb (length rest) 80 ≡ t → take n rest ≡ take 80 rest
    by true h =
        let few : length rest ≤ 80 = leb-true (length rest) 80 h in
        rw (take_all n rest (omega (arith, g)), take_all 80 rest few)
    by false h = let same : n ≡ 80 = omega (arith, g, leb-false (length rest) 80 h) in rw same

pub before_least : (b : ℕ) → before b ≤ b - 1
unfolding before
before_least b = by (leb b 80)
  where
    by : (t : Bool) → cond t 0 (b - 41) ≤ b - 1
    by true = omega arith
    by false = omega arith

-- ---- pieces one after the other

module _ {out mid after : List ℕ} {at m r : ℕ} where
  pub window_fills : {t : List ℕ} (l : List ℕ) (b : ℕ) → t ≡ window b l → PiecePut out at (map visible t) m mid → PiecePut mid m (10 ∷ []) r after → PiecePut out at (window_line b l) r after
  unfolding window_line
  window_fills l b e f g = then (rw e at f) g

  pub caret_fills : (b from : ℕ) → from ≡ before b → PiecePut out at (replicate (b - 1 - from) 32) m mid → PiecePut mid m (94 ∷ 10 ∷ []) r after → PiecePut out at (caret_line b) r after
  unfolding caret_line
  caret_fills b from e f g = then (rw e at f) g

  pub quote_fills : (b : ℕ) (l : List ℕ) → (b ≡ 0 → ⊥) → PiecePut out at (window_line b l) m mid → PiecePut mid m (caret_line b) r after → PiecePut out at (quote b l) r after
  unfolding quote
  quote_fills b l n f g = rw (ne_eqb b 0 n) (then f g)

module _ (out : List ℕ) (at : ℕ) where
  pub quote_none : (b : ℕ) (l : List ℕ) → b ≡ 0 → length l ≡ 0 → PiecePut out at (quote b l) at out
  unfolding quote
  quote_none b l e n = rw (eq-eqb b 0 e, eq-eqb (length l) 0 n) (nothing out at)

module _ {out after : List ℕ} {at r : ℕ} where
  pub quote_text : (b : ℕ) (l : List ℕ) → b ≡ 0 → (length l ≡ 0 → ⊥) → PiecePut out at (window_line 0 l) r after → PiecePut out at (quote b l) r after
  unfolding quote
  quote_text b l e n f = rw (eq-eqb b 0 e, ne_eqb (length l) 0 n) f
