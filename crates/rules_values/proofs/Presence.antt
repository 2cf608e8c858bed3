-- The presence word taken from its highest bit down, and how many of its bits are set. Assumes nothing.
use Prim.Native.Nat.{ℕ, suc, ◌+◌, ◌*◌, ◌^◌, ◌<◌}
use mathlib.Core.Bool.{Bool, true, false, cond}
use mathlib.Core.List.{List, [], ◌∷◌}
use mathlib.Core.Path.{◌≡◌, refl, sym, ◌∙◌, ap, ap₂}
use native.Mathlib.Nat.{zero-mul, mul-one, pow-suc}
use native.Mathlib.Omega.{arith}
use lib.Count.{ones, ones_cat}
use lib.Dec.{lit<}
use Rattle.rules.specs.Layouts.{carries, bit, word_from}
use Rattle.rules.specs.declared.Listed.{Listed}
use Rattle.rules.specs.declared.Layout.{Layout}

unfoldable pub horner : Layout → List Listed → ℕ
horner l [] = 0
horner l (r ∷ rs) = horner l rs * 2 + bit l r

-- how many of the rows' codes a layout carries
unfoldable pub set_bits : Layout → List Listed → ℕ
set_bits l [] = 0
set_bits l (r ∷ rs) = set_bits l rs + bit l r

small : (b : Bool) → cond b 1 0 < 2
small true = lit< tt
small false = lit< tt

pub bit_lt : (l : Layout) (r : Listed) → bit l r < 2
bit_lt l r = small (carries l r.code)

word_from_lem : (l : Layout) (rs : List Listed) (n : ℕ) → word_from l rs n ≡ horner l rs * 2 ^ n
unfolding word_from horner
word_from_lem l [] n = sym (zero-mul (2 ^ n))
word_from_lem l (r ∷ rs) n = rw (word_from_lem l rs (suc n), pow-suc) (omega arith)

pub word_horner : (l : Layout) (rs : List Listed) → word_from l rs 0 ≡ horner l rs
word_horner l rs = word_from_lem l rs 0 ∙ mul-one _

one_bit : (b : Bool) → ones (cond b 1 0) ≡ cond b 1 0
unfolding ones
one_bit true = refl
one_bit false = refl

ones_horner : (l : Layout) (rs : List Listed) → ones (horner l rs) ≡ set_bits l rs
unfolding ones horner set_bits
ones_horner l [] = refl
ones_horner l (r ∷ rs) = ones_cat 1 (horner l rs) (bit l r) (bit_lt l r) ∙ ap₂ (λ a b. a + b) (ones_horner l rs) (one_bit (carries l r.code))

pub count_bits : (l : Layout) (rs : List Listed) → ones (word_from l rs 0) ≡ set_bits l rs
count_bits l rs = ap ones (word_horner l rs) ∙ ones_horner l rs
