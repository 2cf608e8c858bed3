-- The mark is no number of a column: a column's number has 18 digits at most. Assumes nothing.
use Rattle.std.specs.Prelude.{Some}
use Prim.Native.Nat.{ℕ, zero, suc, ◌^◌, ◌≤◌, ◌<◌}
use mathlib.Core.List.{List}
use mathlib.Core.Path.{◌≡◌, ap, ◌∙◌}
use native.Mathlib.Nat.{pow-le-pow_right}
use native.Mathlib.Omega.{arith}
use lib.IntN.{ℤ, pos, negsuc, neg_ℤ}
use Rattle.rules.specs.Layouts.{column_text}
use Rattle.rules.specs.Looks.{look_said, look_number}
use Rattle.rules.specs.Numbers.{whole_of}
use Rattle.rules.specs.Refusals.{says}
use Rattle.rules.specs.declared.Layout.{Layout}
use Rattle.rules.specs.declared.Signed.{Signed}
use Rattle.rules.proofs.Inverse.{refuses_says, given_inv, then_inv}
use Rattle.grammar.specs.Readings.{Spells, plain, minus}
use Rattle.grammar.proofs.Columns.{whole_there}
use Rattle.columns_row.specs.Cells.{no_number}

-- how far below -1 a number is
below : ℤ → ℕ
below (pos n) = 0
below (negsuc n) = n

few : (n v : ℕ) → n ≤ 18 → v < 10 ^ n → v < 10 ^ 18
few n v le h = omega (arith, pow-le-pow_right {n = 10} (omega arith) le)

negative : (v : ℕ) → v < 10 ^ 18 → neg_ℤ (pos v) ≡ no_number → ⊥
unfolding below
negative zero h e = let z : ◌≡◌ {A = ℕ} 0 9223372036854775807 = ap below e in omega arith
negative (suc w) h e = let z : w ≡ 9223372036854775807 = ap below e in omega arith

spelt : (t : List ℕ) (z : Signed) → Spells t z → z.value ≡ no_number → ⊥
unfolding below
spelt t z (plain n v o le h k) e = let y : ◌≡◌ {A = ℕ} 0 9223372036854775807 = ap below e in omega arith
spelt t z (minus n v o le h k) e = negative v (few n v le h) e

pub look_unmarked : (l : List ℕ) (es : Layout) (name : List ℕ) (z : Signed) → look_number l es name ≡ says z → z.value ≡ no_number → ⊥
unfolding look_number
look_unmarked l es name z e =
    let s = then_inv (look_said l es name) z _ e in
    let v = given_inv (whole_of (column_text l s.0)) _ (says z) _ refuses_says s.2 in
    let i : v.0 ≡ z = cc in
    spelt (column_text l s.0) z (whole_there (column_text l s.0) z (v.1 ∙ ap Some i))
