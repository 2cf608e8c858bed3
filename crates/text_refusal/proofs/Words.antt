-- How long the table's names and meanings are at most. Assumes nothing.
use Prim.Native.Nat.{ℕ, zero, suc, ◌-◌, ◌≤◌, max}
use mathlib.Core.List.{List, [], ◌∷◌}
use native.Mathlib.Nat.{le-max_left, le-max_right, le_trans}
use native.Mathlib.Omega.{arith}
use lib.ListN.{length, get_or}
use Rattle.rules.specs.Choice.{bytes}
use Rattle.rules.specs.Refusals.{number}
use Rattle.rules.specs.declared.Reason.{Reason}
use Rattle.text_refusal.specs.Table.{rows, names, meanings, name, meaning}

abbrev longest : List (List ℕ) → ℕ
longest [] = 0
longest (w ∷ ws) = max (length w) (longest ws)

none_longer : (ws : List (List ℕ)) (n : ℕ) → length (get_or ws n []) ≤ longest ws
none_longer [] n = omega arith
none_longer (w ∷ ws) zero = le-max_left (length w) (longest ws)
none_longer (w ∷ ws) (suc n) = le_trans (none_longer ws n) (le-max_right (length w) (longest ws))

pub name_room : (reason : Reason) → length (name reason) ≤ 10
unfolding name names rows bytes
name_room reason = none_longer names (number reason - 1)

pub meaning_room : (reason : Reason) → length (meaning reason) ≤ 75
unfolding meaning meanings rows bytes
meaning_room reason = omega (arith, none_longer meanings (number reason - 1))
