-- Small laws of signs, of lists and of characters that the crates above share. Assumes nothing.
use Prim.Native.Nat.{ℕ, ◌≤◌}
use mathlib.Core.Bool.{true, ◌&&◌}
use mathlib.Core.List.{List, map}
use mathlib.Core.Path.{◌≡◌, refl, sym, ◌∙◌}
use native.Mathlib.Nat.{min-le_left}
use native.Mathlib.Omega.{arith}
use borrow.Author.Tests.{leb-true}
use lib.Dec.{leb, leb-zero}
use lib.IntN.{ℤ, pos, negsuc}
use lib.ListN.{length, take, length-map, length-take}
use lib.Signed.{non_neg, le_z}
use Rattle.rules.specs.Chars.{is_code, is_digit}
use Rattle.rules.proofs.Inverse.{and_inv, or_inv}

-- ---- signs

pub zero_below : (z : ℤ) → le_z (pos 0) z ≡ non_neg z
zero_below (pos n) = leb-zero n
zero_below (negsuc n) = refl

-- ---- lists

-- what owning an array of structs tells is the length of a mapped list
pub unmapped : {X Y : Type 0} (f : X → Y) (l : List X) (n : ℕ) → length (map f l) ≡ n → length l ≡ n
unmapped f l n e = sym (length-map l f) ∙ e

pub take_most : {A : Type 0} (n : ℕ) (l : List A) → length (take n l) ≤ n
take_most n l = rw length-take (min-le_left n (length l))

-- ---- a character of a code

pub code_high : (b : ℕ) → is_code b ≡ true → b ≤ 90
unfolding is_code is_digit
code_high b e =
    or_inv (leb 48 b && leb b 57) (leb 65 b && leb b 90) e
    (λ d. omega (arith, leb-true b 57 (and_inv (leb 48 b) (leb b 57) d).1))
    (λ d. leb-true b 90 (and_inv (leb 65 b) (leb b 90) d).1)
