-- The presence word taken from its highest bit down: its size, and one turn of the loop. Assumes nothing.
use Prim.Native.Nat.{ℕ, suc, ◌+◌, ◌-◌, ◌*◌, ◌^◌, ◌≤◌, ◌<◌}
use mathlib.Core.List.{List, [], ◌∷◌}
use mathlib.Core.Path.{◌≡◌, ◌∙◌, ap}
use native.Mathlib.Nat.{pow-suc, lt_of_lt_of_le}
use native.Mathlib.Omega.{arith}
use lib.Dec.{lit<}
use lib.ListN.{length, drop, get_or, length-drop}
use lib.Pow.{pow_mono}
use lib.Seq.{drop-cons}
use Rattle.rules.specs.Listed.{unlisted}
use Rattle.rules.specs.Layouts.{bit}
use Rattle.rules.specs.declared.Listed.{Listed}
use Rattle.rules.specs.declared.Layout.{Layout}
use Rattle.rules_values.proofs.Presence.{horner, bit_lt}

horner_lt : (l : Layout) (rs : List Listed) → horner l rs < 2 ^ length rs
unfolding horner
horner_lt l [] = lit< tt
horner_lt l (r ∷ rs) = let h = horner_lt l rs in let k = bit_lt l r in rw (pow-suc 2 (length rs)) (omega arith)

-- one turn: the row of the number n - 1
pub horner_step : (l : Layout) (rs : List Listed) (n : ℕ) → 0 < n → n ≤ length rs
    → horner l (drop (n - 1) rs) ≡ horner l (drop n rs) * 2 + bit l (get_or rs (n - 1) unlisted)
unfolding horner
horner_step l rs n p h =
    let i : n - 1 < length rs = omega arith in
    let e : suc (n - 1) ≡ n = omega arith in
    ap (horner l) (drop-cons rs (n - 1) unlisted i) ∙ ap (λ k. horner l (drop k rs) * 2 + bit l (get_or rs (n - 1) unlisted)) e

pub horner_drop_lt : (l : Layout) (rs : List Listed) (n : ℕ) → horner l (drop n rs) < 2 ^ length rs
horner_drop_lt l rs n = lt_of_lt_of_le (horner_lt l (drop n rs)) (pow_mono (simp length-drop (omega arith)))
