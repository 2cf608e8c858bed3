-- Laws of positions that are allowed, with their decimals, and of their degrees. Assumes nothing.
use Prim.Native.Nat.{ℕ, ◌*◌, ◌^◌, ◌≤◌, ◌<◌}
use mathlib.Core.Bool.{Bool, true, false, ◌&&◌, false≢true}
use mathlib.Core.Path.{◌≡◌, refl, sym, ◌∙◌}
use native.Mathlib.Nat.{le_trans, mul-le-mul}
use borrow.Author.Tests.{le-leb, lt-leb, leb-true}
use lib.Dec.{T, leb, leb→le}
use lib.Ieee.{Float}
use lib.Ieee.Fits.{and_l}
use Rattle.rules.specs.Choice.{need}
use Rattle.rules.specs.Refusals.{Said, says}
use Rattle.rules.specs.Fields.{is_either}
use Rattle.rules.specs.Degrees.{is_fine_position}
use Rattle.rules.specs.declared.Degrees.{Degrees}
use Rattle.rules.specs.declared.FinePosition.{FinePosition}
use Rattle.byte_tens.specs.Tens.{power_of}
use Rattle.byte_tens.proofs.Laws.{power_all, power_most}

-- ---- the test of a position: r is the power of ten that was told of its decimals

-- a limit times the power is no number that wraps
pub limit_fits : (most n r : ℕ) → most ≤ 10800000 → r ≡ power_of n → most * r ≤ 108000000000
limit_fits most n r h e =
    let b : r ≤ 10000 = rw e (power_most n) in
    mul-le-mul h b

module _ (most a b r : ℕ) (p : FinePosition) (few : p.decimals ≤ 4) (e : r ≡ power_of p.decimals) where
  pub past_limit : most * r < p.count → false ≡ is_fine_position most a b p
  unfolding is_fine_position
  past_limit h =
      let g : most * 10 ^ p.decimals < p.count = rw (e ∙ power_all p.decimals few) at h in
      rw (le-leb p.decimals 4 few, lt-leb p.count (most * 10 ^ p.decimals) g)

  pub in_limit : (x : Bool) → p.count ≤ most * r → x ≡ is_either p.letter a b → x ≡ is_fine_position most a b p
  unfolding is_fine_position
  in_limit x h k =
      let g : p.count ≤ most * 10 ^ p.decimals = rw (e ∙ power_all p.decimals few) at h in
      rw (le-leb p.decimals 4 few, le-leb p.count (most * 10 ^ p.decimals) g) k

-- ---- what an allowed position keeps to: r is what was told of it

is_within : (most a b : ℕ) (p : FinePosition) (r : Bool) → r ≡ is_fine_position most a b p → r ≡ true → most ≤ 10800000 → (p.count ≤ 108000000000) × (p.decimals ≤ 4)
unfolding is_fine_position
is_within most a b p r e g h = by (leb p.decimals 4) refl (sym e ∙ g)
  where
    by : (t : Bool) → leb p.decimals 4 ≡ t → need t false (λ _. leb p.count (most * 10 ^ p.decimals) && is_either p.letter a b) ≡ true → (p.count ≤ 108000000000) × (p.decimals ≤ 4)
    by true k q =
        let few = leb-true p.decimals 4 k in
        let t : T (leb p.count (most * 10 ^ p.decimals) && is_either p.letter a b) = rw q tt in
        let c = leb→le p.count (most * 10 ^ p.decimals) (and_l (leb p.count (most * 10 ^ p.decimals)) (is_either p.letter a b) t) in
        (le_trans c (limit_fits most p.decimals (10 ^ p.decimals) h (sym (power_all p.decimals few))), few)
    by false k q = absurd (false≢true q)

module _ (most a b : ℕ) (p : FinePosition) (r : Bool) (e : r ≡ is_fine_position most a b p) (g : r ≡ true) (h : most ≤ 10800000) where
  pub count_within : p.count ≤ 108000000000
  count_within = (is_within most a b p r e g h).0

  pub few_within : p.decimals ≤ 4
  few_within = (is_within most a b p r e g h).1

-- both angles told, the pair is told
pub pair_is : (a b x y : Float) → a ≡ x → b ≡ y → ◌≡◌ {A = Said Degrees} (says (record { lat = a; lon = b })) (says (record { lat = x; lon = y }))
pair_is a b x y e g = rw (e, g)
