-- Two lists of distinct numbers: as many of the one stand in the other as of the other in the one. Assumes nothing.
use Rattle.std.specs.Prelude.{Some}
use Prim.Native.Nat.{ℕ, suc, ◌+◌}
use mathlib.Core.Bool.{Bool, true, false, not, ◌&&◌, ◌||◌, cond, false≢true, or-false, or_assoc}
use mathlib.Core.List.{List, [], ◌∷◌, ◌++◌, map}
use mathlib.Core.Path.{◌≡◌, refl, sym, ◌∙◌, ap}
use native.Mathlib.Omega.{arith}
use borrow.Author.Tests.{eqb-true, eqb-false, eq-eqb, ne_eqb}
use lib.Dec.{eqb}
use Rattle.rules.specs.Choice.{given, first_of}
use Rattle.rules.proofs.Inverse.{or_neither}

abbrev pub member : ℕ → List ℕ → Bool
member x [] = false
member x (y ∷ ys) = eqb y x || member x ys

abbrev pub distinct : List ℕ → Bool
distinct [] = true
distinct (x ∷ xs) = not (member x xs) && distinct xs

-- how many of the first list stand in the second
abbrev pub common : List ℕ → List ℕ → ℕ
common [] ys = 0
common (x ∷ xs) ys = common xs ys + cond (member x ys) 1 0

split : (a b : Bool) → (not a && b) ≡ true → (a ≡ false) × (b ≡ true)
split true b e = absurd (false≢true e)
split false b e = (refl, e)

common_none : (xs : List ℕ) → common xs [] ≡ 0
common_none [] = refl
common_none (x ∷ xs) = rw (common_none xs)

-- one more on the right counts where it stands on the left
insert : (xs : List ℕ) (y : ℕ) (ys : List ℕ) → distinct xs ≡ true → member y ys ≡ false → common xs (y ∷ ys) ≡ common xs ys + cond (member y xs) 1 0
insert [] y ys d n = refl
insert (x ∷ xs) y ys d n = let p = split (member x xs) (distinct xs) d in go p.0 (insert xs y ys p.1 n) (eqb y x) refl
  where
    go : member x xs ≡ false → common xs (y ∷ ys) ≡ common xs ys + cond (member y xs) 1 0 → (b : Bool) → eqb y x ≡ b
        → common (x ∷ xs) (y ∷ ys) ≡ common (x ∷ xs) ys + cond (member y (x ∷ xs)) 1 0
    go new ih true e =
        let q = eqb-true y x e in
        let m : member x ys ≡ false = ap (λ z. member z ys) (sym q) ∙ n in
        let k : member y xs ≡ false = ap (λ z. member z xs) q ∙ new in
        simp (e, ih, m, k, eq-eqb x y (sym q)) (omega arith)
    go new ih false e = simp (e, ih, ne_eqb x y (λ q. eqb-false y x e (sym q))) (omega arith)

pub swap : (xs ys : List ℕ) → distinct xs ≡ true → distinct ys ≡ true → common xs ys ≡ common ys xs
swap xs [] d e = common_none xs
swap xs (y ∷ ys) d e =
    let p = split (member y ys) (distinct ys) e in
    insert xs y ys d p.0 ∙ ap (λ n. n + cond (member y xs) 1 0) (swap xs ys d p.1)

-- one more at the end, that was not there
member_snoc : (x : ℕ) (xs : List ℕ) (y : ℕ) → member x (xs ++ (y ∷ [])) ≡ (member x xs || eqb y x)
member_snoc x [] y = or-false (eqb y x)
member_snoc x (z ∷ xs) y = rw (member_snoc x xs y) (sym (or_assoc (eqb z x) (member x xs) (eqb y x)))

pub distinct_snoc : (xs : List ℕ) (y : ℕ) → distinct xs ≡ true → member y xs ≡ false → distinct (xs ++ (y ∷ [])) ≡ true
distinct_snoc [] y d n = refl
distinct_snoc (x ∷ xs) y d n =
    let p = split (member x xs) (distinct xs) d in
    let o = or_neither (eqb x y) (member y xs) n in
    simp (member_snoc x xs y, p.0, ne_eqb y x (λ q. eqb-false x y o.0 (sym q)), distinct_snoc xs y p.1 o.1)

-- a look-up by a number finds something where it is a member
module _ {A B : Type 0} (code : A → ℕ) (found : ℕ → A → B) (x : ℕ) where
  pub scan_member : (xs : List A) (k : ℕ) → given (first_of (λ a. eqb (code a) x) found xs k) false (λ b. true) ≡ member x (map code xs)
  unfolding first_of
  scan_member [] k = refl
  scan_member (a ∷ xs) k = go (eqb (code a) x) (scan_member xs (suc k))
    where
      go : (b : Bool) → given (first_of (λ a. eqb (code a) x) found xs (suc k)) false (λ b. true) ≡ member x (map code xs)
          → given (cond b (Some (found k a)) (first_of (λ a. eqb (code a) x) found xs (suc k))) false (λ b. true) ≡ (b || member x (map code xs))
      go true ih = refl
      go false ih = ih
