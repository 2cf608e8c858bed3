-- The three ways to go through numbers. Assumes nothing.
use Rattle.std.specs.Prelude.{None, Some}
use Prim.Native.Nat.{ℕ, zero, suc, ◌+◌, ◌-◌, ◌≤◌, ◌<◌}
use mathlib.Core.Bool.{Bool, true, false, cond, and-false}
use mathlib.Core.Path.{◌≡◌, refl, sym}
use native.Mathlib.Nat.{add-zero, sub-zero}
use native.Mathlib.Numerals.{add-one}
use native.Mathlib.Omega.{arith}
use Rattle.rules.proofs.Inverse.{and_inv, by_bool}
use Rattle.shelf_rules.specs.Ranges.{least, every, total}
use Rattle.shelf_rules.proofs.Tests.{by_eq}

-- ---- the least

-- numbers that fail may be left out
pub least_skip : (test : ℕ → Bool) (at k d : ℕ) → d ≤ k → ((u : ℕ) → at ≤ u → u < at + d → test u ≡ false) → least test at k ≡ least test (at + d) (k - d)
unfolding least
least_skip test at k zero h f = rw (add-zero, sub-zero)
least_skip test at (suc k) (suc d) h f =
    let e : at + suc d ≡ suc at + d = omega arith in
    let g : suc k - suc d ≡ k - d = omega arith in
    rw (f at (omega arith) (omega arith), e, g) (least_skip test (suc at) k d (omega arith) (λ u p q. f u (omega arith) (omega arith)))
least_skip test at zero (suc d) h f = absurd (omega arith)

pub record Least (test : ℕ → Bool) (at k v : ℕ) : Type 0 where
  pub low : at ≤ v
  pub high : v < at + k
  pub passes : test v ≡ true
  pub first : (u : ℕ) → at ≤ u → u < v → test u ≡ false

least_found : (test : ℕ → Bool) (at k v : ℕ) (t : Bool) → test at ≡ t → cond t (Some at) (least test (suc at) k) ≡ Some v → (least test (suc at) k ≡ Some v → Least test (suc at) k v)
    → Least test at (suc k) v
least_found test at k v true e g ih =
    let z : at ≡ v = cc in
    record { low = omega arith; high = omega arith; passes = rw z at e; first = λ u p q. absurd (omega arith) }
least_found test at k v false e g ih =
    let r = ih g in
    record {
      low = omega (arith, r.low);
      high = omega (arith, r.high);
      passes = r.passes;
      first = λ u p q. by_eq u at (λ h. rw h e) (λ h. r.first u (omega arith) q);
    }

pub least_some : (test : ℕ → Bool) (at k v : ℕ) → least test at k ≡ Some v → Least test at k v
unfolding least
least_some test at zero v e = let z : ◌≡◌ {A = ℕ} 0 1 = cc in absurd (omega arith)
least_some test at (suc k) v e = least_found test at k v (test at) refl e (least_some test (suc at) k v)

pub least_none : (test : ℕ → Bool) (at k : ℕ) → least test at k ≡ None → (u : ℕ) → at ≤ u → u < at + k → test u ≡ false
unfolding least
least_none test at zero e u p q = absurd (omega arith)
least_none test at (suc k) e u p q =
    by_bool (test at)
    (λ t. let z : ◌≡◌ {A = ℕ} 0 1 = let g = rw t at e in cc in absurd (omega arith))
    (λ t. by_eq u at (λ h. rw h t) (λ h. least_none test (suc at) k (rw t at e) u (omega arith) (omega arith)))

-- nothing passes
pub least_over : (test : ℕ → Bool) (at k : ℕ) → ((u : ℕ) → at ≤ u → u < at + k → test u ≡ false) → least test at k ≡ None
unfolding least
least_over test at zero f = refl
least_over test at (suc k) f = rw (f at (omega arith) (omega arith)) (least_over test (suc at) k (λ u p q. f u (omega arith) (omega arith)))

-- one turn: the number in hand passes, or fails
pub least_hit : (test : ℕ → Bool) (at k : ℕ) → 0 < k → test at ≡ true → least test at k ≡ Some at
unfolding least
least_hit test at zero h e = absurd (omega arith)
least_hit test at (suc k) h e = rw e

pub least_miss : (test : ℕ → Bool) (at k : ℕ) → 0 < k → test at ≡ false → least test at k ≡ least test (at + 1) (k - 1)
least_miss test at k h e = least_skip test at k 1 h (λ u p q. let z : u ≡ at = omega arith in rw z e)

-- ---- every

pub every_at : (test : ℕ → Bool) (k : ℕ) → every test k ≡ true → (n : ℕ) → n < k → test n ≡ true
unfolding every
every_at test zero e n h = absurd (omega arith)
every_at test (suc k) e n h =
    by_eq n k
    (λ q. rw q (and_inv (every test k) (test k) e).1)
    (λ q. every_at test k (and_inv (every test k) (test k) e).0 n (omega arith))

pub every_of : (test : ℕ → Bool) (k : ℕ) → ((n : ℕ) → n < k → test n ≡ true) → every test k ≡ true
unfolding every
every_of test zero f = refl
every_of test (suc k) f = rw (every_of test k (λ n h. f n (omega arith)), f k (omega arith))

pub every_not : (test : ℕ → Bool) (k n : ℕ) → n < k → test n ≡ false → every test k ≡ false
unfolding every
every_not test zero n h e = absurd (omega arith)
every_not test (suc k) n h e =
    by_eq n k
    (λ q. rw (← q, e) (and-false (every test n)))
    (λ q. rw (every_not test k n (omega arith) e))

-- ---- sums

pub total_same : (f g : ℕ → ℕ) (k : ℕ) → ((n : ℕ) → n < k → f n ≡ g n) → total f k ≡ total g k
unfolding total
total_same f g zero h = refl
total_same f g (suc k) h = rw (total_same f g k (λ n p. h n (omega arith)), h k (omega arith))

-- one number changes
pub total_change : (f g : ℕ → ℕ) (k n : ℕ) → n < k → ((m : ℕ) → m < k → (m ≡ n → ⊥) → g m ≡ f m) → total g k + f n ≡ total f k + g n
unfolding total
total_change f g zero n p h = absurd (omega arith)
total_change f g (suc k) n p h =
    by_eq n k
    (λ q. let s = total_same g f k (λ m r. h m (omega arith) (λ e. omega arith)) in rw (q, s) (omega arith))
    (λ q. let s = total_change f g k n (omega arith) (λ m r d. h m (omega arith) d) in
    let e = h k (omega arith) (λ e. q (sym e)) in
    omega arith)

pub total_le : (f g : ℕ → ℕ) (k : ℕ) → ((n : ℕ) → n < k → f n ≤ g n) → total f k ≤ total g k
unfolding total
total_le f g zero h = omega arith
total_le f g (suc k) h = let s = total_le f g k (λ n p. h n (omega arith)) in let t = h k (omega arith) in omega arith

-- one turn of a loop that tests each
pub every_none : (test : ℕ → Bool) → every test 0 ≡ true
unfolding every
every_none test = refl

pub every_next : (test : ℕ → Bool) (k : ℕ) → every test k ≡ true → test k ≡ true → every test (k + 1) ≡ true
unfolding every
every_next test k e g = rw (add-one, e, g)
