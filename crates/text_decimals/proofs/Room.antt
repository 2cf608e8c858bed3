-- How many bytes a time and a position have at most. Assumes nothing.
use Prim.Native.Nat.{ℕ, ◌+◌, ◌/◌, ◌^◌, ◌≤◌}
use mathlib.Core.Bool.{Bool, true, false, cond}
use mathlib.Core.List.{[], ◌∷◌}
use mathlib.Core.Path.{◌≡◌, refl}
use native.Mathlib.Omega.{arith}
use lib.Dec.{eqb}
use lib.ListN.{length, length-append}
use Rattle.rules.specs.Numbers.{digits_of}
use Rattle.rules.specs.Fields.{time_text}
use Rattle.rules.specs.Fixes.{plain}
use Rattle.rules.specs.Degrees.{is_negated}
use Rattle.rules.specs.declared.FineTime.{FineTime}
use Rattle.rules.specs.declared.FinePosition.{FinePosition}
use Rattle.rules.proofs.Times.{by_pairs}
use Rattle.rules.proofs.Texts.{digits_length}
use Rattle.text_pieces.proofs.Laws.{number_room}
use Rattle.byte_tens.specs.Tens.{few_of}
use Rattle.byte_tens.proofs.Laws.{few_most}
use Rattle.text_decimals.specs.Decimals.{colons, behind_dot, extra_shown, shown_seconds, shown_clock, seconds_behind, clock_behind, units_of, with_decimals, shown_degrees, degrees_behind}

pub clock_length : (t : ℕ) → length (colons (time_text t)) ≡ 8
unfolding colons digits_of
clock_length = by_pairs (λ l. length (colons l) ≡ 8) (λ a b c. refl)

extra_room : (n v : ℕ) → length (extra_shown n v) ≤ 1 + n
unfolding extra_shown behind_dot
extra_room n v = by (eqb n 0)
  where
    by : (t : Bool) → length (cond t [] (46 ∷ digits_of n v)) ≤ 1 + n
    by true = omega arith
    by false = omega (arith, digits_length n v)

sign_room : (t : Bool) → length {A = ℕ} (cond t (45 ∷ []) []) ≤ 1
sign_room true = omega arith
sign_room false = omega arith

pub clock_behind_room : (mark : ℕ) (t : FineTime) → length (clock_behind mark t) ≤ 14
unfolding clock_behind seconds_behind
clock_behind_room mark t =
    let n = few_of t.decimals in
    simp length-append (omega (arith, clock_length (plain t.count n), extra_room n t.count, few_most t.decimals))

pub degrees_behind_room : (mark : ℕ) (p : FinePosition) → length (degrees_behind mark p) ≤ 33
unfolding degrees_behind with_decimals behind_dot
degrees_behind_room mark p =
    let n = 6 + few_of p.decimals in
    let v = units_of p.count in
    simp length-append (omega (arith, sign_room (is_negated p), number_room (v / 10 ^ n), digits_length n v, few_most p.decimals))

-- ---- behind a space, as on a line for people

pub clock_room : (t : FineTime) → length (shown_clock t) ≤ 14
unfolding shown_clock shown_seconds
clock_room t =
    let n = few_of t.decimals in
    simp length-append (omega (arith, clock_length (plain t.count n), extra_room n t.count, few_most t.decimals))

pub degrees_room : (p : FinePosition) → length (shown_degrees p) ≤ 33
unfolding shown_degrees with_decimals behind_dot
degrees_room p =
    let n = 6 + few_of p.decimals in
    let v = units_of p.count in
    simp length-append (omega (arith, sign_room (is_negated p), number_room (v / 10 ^ n), digits_length n v, few_most p.decimals))
