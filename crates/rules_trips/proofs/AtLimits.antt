-- A column at a limit, in parts: it keeps its rule, and holds zeros where its coordinate is at its limit. Zeros spell 0, so a finer count stays within the limit times its power
-- of ten. Assumes nothing.
use Rattle.std.specs.Prelude.{None, Option, Some}
use Prim.Native.Nat.{ℕ, zero, suc, ◌+◌, ◌*◌, ◌^◌, ◌≤◌, ◌<◌}
use mathlib.Core.Bool.{Bool, true, false, not, ◌&&◌, cond}
use mathlib.Core.List.{List, [], ◌∷◌}
use mathlib.Core.Logic.{◌↔◌, ◌⊎◌, inl, inr}
use mathlib.Core.Path.{◌≡◌, refl}
use native.Mathlib.Nat.{eq-or-lt_of_le, mul-le-mul_right}
use native.Mathlib.Omega.{arith}
use borrow.Author.Tests.{eqb-true, eqb-false, not-false}
use lib.Dec.{eqb, leb}
use lib.ListN.{length}
use Rattle.rules.specs.Choice.{given, leads, part, byte}
use Rattle.rules.specs.Chars.{is_digit}
use Rattle.rules.specs.Numbers.{spell, number_at}
use Rattle.rules.specs.Listed.{keeps_rule, lad, lod, is_zeros, is_past, keeps_limit}
use Rattle.rules.specs.Fixes.{decimals_of, digits_at, refined}
use Rattle.rules.specs.declared.AtLimit.{AtLimit}
use Rattle.rules.specs.declared.Reach.{Reach}
use Rattle.rules.proofs.Inverse.{false_true, none_some, and_inv, need_inv, or_neither}
use Rattle.rules_trips.proofs.Refined.{digits_below}

-- ---- the column's rule

module _ (at : Bool) (x y : ℕ) (t : List ℕ) where
  -- one coordinate, whose digits have the code y
  past_one : ((at && (eqb x y && not (is_zeros t))) ≡ false) ↔ (at ≡ true → x ≡ y → is_zeros t ≡ true)
  past_one = (there at (eqb x y) refl, here at (eqb x y) refl)
    where
      there : (a c : Bool) → eqb x y ≡ c → (a && (c && not (is_zeros t))) ≡ false → a ≡ true → x ≡ y → is_zeros t ≡ true
      there true true q e h i = not-false _ e
      there true false q e h i = absurd (eqb-false x y q i)
      there false c q e h i = absurd (false_true h)

      here : (a c : Bool) → eqb x y ≡ c → (a ≡ true → x ≡ y → is_zeros t ≡ true) → (a && (c && not (is_zeros t))) ≡ false
      here true true q h = rw (h refl (eqb-true x y q))
      here true false q h = refl
      here false c q h = refl

-- what it says of a column that it keeps its rule at a limit
pub record AtLimits (at : AtLimit) (x : ℕ) (t : List ℕ) : Type 0 where
  pub rule : keeps_rule x t ≡ true
  pub lat : at.lat ≡ true → x ≡ lad → is_zeros t ≡ true
  pub lon : at.lon ≡ true → x ≡ lod → is_zeros t ≡ true

pub limits_exactly : (at : AtLimit) (x : ℕ) (t : List ℕ) → (keeps_limit at x t ≡ true) ↔ AtLimits at x t
unfolding keeps_limit is_past
limits_exactly at x t = (there (is_past at x t) refl, here)
  where
    there : (p : Bool) → is_past at x t ≡ p → cond p false (keeps_rule x t) ≡ true → AtLimits at x t
    there true q e = absurd (false_true e)
    there false q e =
        let h = or_neither (at.lat && (eqb x lad && not (is_zeros t))) _ q in
        record { rule = e; lat = (past_one at.lat x lad t).0 h.0; lon = (past_one at.lon x lod t).0 h.1 }

    here : AtLimits at x t → keeps_limit at x t ≡ true
    here w = rw ((past_one at.lat x lad t).1 w.lat, (past_one at.lon x lod t).1 w.lon) w.rule

-- ---- zeros spell 0

zeros_spell : (n v : ℕ) (l : List ℕ) → leads (λ b. eqb b 48) (length l) l ≡ true → spell n 0 l ≡ Some v → v ≡ 0
unfolding spell leads is_digit
zeros_spell zero v l h e = let i : 0 ≡ v = cc in omega arith
zeros_spell (suc n) v [] h e = absurd (none_some e)
zeros_spell (suc n) v (b ∷ l) h e =
    let w = and_inv (eqb b 48) _ h in
    let i : b ≡ 48 = eqb-true b 48 w.0 in
    zeros_spell n v l w.1 (rw i at e)

pub zero_digits : (l : List ℕ) (r : Reach) → is_zeros (part (byte r.first) r.last l) ≡ true → digits_at l r ≡ 0
unfolding digits_at number_at is_zeros
zero_digits l r h = go (number_at (part (byte r.first) r.last l) 0 (decimals_of r)) refl
  where
    go : (o : Option ℕ) → number_at (part (byte r.first) r.last l) 0 (decimals_of r) ≡ o → given o 0 (λ v. v) ≡ 0
    go None e = refl
    go (Some v) e = zeros_spell (decimals_of r) v (part (byte r.first) r.last l) h (need_inv (leb (decimals_of r) 18) None (Some v) _ none_some e).1

-- a count within its limit, whose digits are 0 where it is at the limit
pub refined_within : (most count : ℕ) (l : List ℕ) (r : Reach) → count ≤ most → (count ≡ most → digits_at l r ≡ 0) → refined count l r ≤ most * 10 ^ decimals_of r
unfolding refined
refined_within most count l r h z = go (eq-or-lt_of_le h)
  where
    go : (count ≡ most) ⊎ (count < most) → count * 10 ^ decimals_of r + digits_at l r ≤ most * 10 ^ decimals_of r
    go (inl e) = rw (z e, e) (omega arith)
    go (inr g) =
        let k : suc count * 10 ^ decimals_of r ≤ most * 10 ^ decimals_of r = mul-le-mul_right (10 ^ decimals_of r) g in
        omega (arith, digits_below l r)
