-- Powers of ten for few decimals: what they are, and that they lie between 1 and 10,000. Assumes nothing.
use Prim.Native.Nat.{ℕ, zero, suc, ◌^◌, ◌≤◌, ◌<◌}
use mathlib.Core.Bool.{Bool, true, false, cond}
use mathlib.Core.Path.{◌≡◌, refl, sym, ap}
use native.Mathlib.Omega.{arith}
use borrow.Author.Tests.{le-leb, lt-leb, leb-true}
use lib.Dec.{leb, lit≤}
use Rattle.byte_tens.specs.Tens.{few_of, power_of}

-- what holds of 0, 1, 2, 3 and 4 holds of each number up to 4
pub by_few : (P : ℕ → Type 0) → P 0 → P 1 → P 2 → P 3 → P 4 → (n : ℕ) → n ≤ 4 → P n
by_few P a b c d e zero h = a
by_few P a b c d e (suc zero) h = b
by_few P a b c d e (suc (suc zero)) h = c
by_few P a b c d e (suc (suc (suc zero))) h = d
by_few P a b c d e (suc (suc (suc (suc zero)))) h = e
by_few P a b c d e (suc (suc (suc (suc (suc n))))) h =
    let z : ⊥ = omega arith in
    absurd z

-- ---- how many

pub few_all : (n : ℕ) → n ≤ 4 → n ≡ few_of n
unfolding few_of
few_all n h = rw (le-leb n 4 h)

pub few_past : (n : ℕ) → 4 < n → 4 ≡ few_of n
unfolding few_of
few_past n h = rw (lt-leb n 4 h)

few_four : (n : ℕ) → 4 ≤ n → 4 ≡ few_of n
unfolding few_of
few_four n h = by (leb n 4) refl
  where
    by : (t : Bool) → leb n 4 ≡ t → 4 ≡ cond t n 4
    by true e = omega (arith, leb-true n 4 e)
    by false e = refl

pub few_most : (n : ℕ) → few_of n ≤ 4
unfolding few_of
few_most n = by (leb n 4) refl
  where
    by : (t : Bool) → leb n 4 ≡ t → cond t n 4 ≤ 4
    by true e = leb-true n 4 e
    by false e = lit≤ tt

-- ---- the power

pub power_all : (n : ℕ) → n ≤ 4 → power_of n ≡ 10 ^ n
unfolding power_of
power_all n h = ap (λ (k : ℕ). 10 ^ k) (sym (few_all n h))

pub power_four : (n : ℕ) → 4 ≤ n → 10000 ≡ power_of n
unfolding power_of
power_four n h = rw (← few_four n h)

pub power_least : (n : ℕ) → 1 ≤ power_of n
unfolding power_of
power_least n = by_few (λ k. 1 ≤ 10 ^ k) (lit≤ tt) (lit≤ tt) (lit≤ tt) (lit≤ tt) (lit≤ tt) (few_of n) (few_most n)

pub power_most : (n : ℕ) → power_of n ≤ 10000
unfolding power_of
power_most n = by_few (λ k. 10 ^ k ≤ 10000) (lit≤ tt) (lit≤ tt) (lit≤ tt) (lit≤ tt) (lit≤ tt) (few_of n) (few_most n)

-- ---- what was told: r is the power, k how many decimals are taken

module _ (n r : ℕ) (e : r ≡ power_of n) where
  pub told_least : 0 < r
  told_least = omega (arith, power_least n)

  pub told_most : r ≤ 10000
  told_most = omega (arith, power_most n)

pub told_few : (n k : ℕ) → k ≡ few_of n → k ≤ 4
told_few n k e = omega (arith, few_most n)
