-- The three ways to go through numbers one after the other: the least that passes, whether all pass, and a sum.
use Rattle.std.specs.Prelude.{ℕ, zero, suc, ◌+◌, Bool, true, ◌&&◌, cond, None, Option, Some}

-- the least of the `count` numbers from `at` on that passes
unfoldable pub least : (ℕ → Bool) → ℕ → ℕ → Option ℕ
least test at zero = None
least test at (suc k) = cond (test at) (Some at) (least test (suc at) k)

-- each number below `count` passes
unfoldable pub every : (ℕ → Bool) → ℕ → Bool
every test zero = true
every test (suc k) = every test k && test k

-- the sum of f over the numbers below `count`
unfoldable pub total : (ℕ → ℕ) → ℕ → ℕ
total f zero = 0
total f (suc k) = total f k + f k
