-- A count taken apart, the fields of a fix, and the columns of a tail. Assumes nothing.
use Rattle.std.specs.Prelude.{None, Option, Some}
use Rattle.std.specs.Option.{unwrap_or}
use Prim.Native.Nat.{ℕ, ◌+◌, ◌-◌, ◌/◌, ◌%◌, ◌^◌, ◌≤◌}
use mathlib.Core.Bool.{Bool, true, false, not, ◌&&◌}
use mathlib.Core.List.{List}
use mathlib.Core.Path.{◌≡◌, refl, sym, ◌∙◌}
use native.Mathlib.Nat.{div-div-eq-div-mul, div-le_self, pow-suc}
use native.Mathlib.Numerals.{add-one}
use native.Mathlib.Omega.{arith}
use borrow.Author.Tests.{eq-eqb, ne_eqb, leb-true, not-false}
use lib.Dec.{eqb, leb}
use Rattle.rules.specs.Choice.{given}
use Rattle.rules.specs.Numbers.{number_at}
use Rattle.rules.specs.Fixes.{plain, extra_digits, decimals_of}
use Rattle.rules.specs.Limits.{is_fine, tail_digits, is_split}
use Rattle.rules.specs.declared.Fix.{Fix}
use Rattle.rules.specs.declared.Reach.{Reach}
use Rattle.rules.proofs.Inverse.{and_inv}
use Rattle.layout_column.specs.Parts.{TextOf}
use Rattle.byte_tens.specs.Tens.{power_of}
use Rattle.byte_tens.proofs.Laws.{power_all}

-- ---- a count without its extra decimals: one decimal less

pub tenth : (count done x : ℕ) → x ≡ count / 10 ^ done → x / 10 ≡ count / 10 ^ (done + 1)
tenth count done x e = rw (e, add-one, pow-suc 10 done) (div-div-eq-div-mul count (10 ^ done) 10)

pub none_taken : (count : ℕ) → count ≡ count / 10 ^ 0
none_taken count = omega arith

-- it is no greater
pub plain_below : (count decimals r : ℕ) → r ≡ plain count decimals → r ≤ count
unfolding plain
plain_below count decimals r e = rw e (div-le_self count (10 ^ decimals))

-- ---- its last digits: p is the power of ten that was told, n how many digits the column has, v what they spell

module _ (count decimals n : ℕ) (tail : List ℕ) (r : Reach) (is : n ≡ decimals_of r) where
  pub other_width : (decimals ≡ n → ⊥) → eqb decimals n ≡ is_split count decimals tail r
  unfolding is_split
  other_width h = rw (ne_eqb decimals n h, ne_eqb decimals (decimals_of r) (λ e. h (e ∙ sym is)))

  pub by_digits : (p v : ℕ) → decimals ≡ n → decimals ≤ 4 → p ≡ power_of decimals → v ≡ tail_digits tail r → eqb (count % p) v ≡ is_split count decimals tail r
  unfolding is_split extra_digits
  by_digits p v h few e g = rw (eq-eqb decimals (decimals_of r) (h ∙ is), e ∙ power_all decimals few, g)

-- what stands in a look-up, or 0
or_given : (m : Option ℕ) → unwrap_or m 0 ≡ given m 0 (λ v. v)
or_given (Some v) = refl
or_given None = refl

-- ---- the digits of a column in the tail: m is what was told of its text, which stands from byte `first` of the tail on, counted from 1
module _ (tail text : List ℕ) (r : Reach) (first last n : ℕ) (m : Option ℕ) (a : first ≡ r.first + 1 - 36) (b : last ≡ r.last + 1 - 36) (is : n ≡ decimals_of r) (t : TextOf tail first last text) (e : m ≡ number_at text 0 n) where
  told_so : given (m) 0 (λ v. v) ≡ tail_digits tail r
  unfolding tail_digits
  told_so =
      let k : first - 1 ≡ r.first - 36 = omega arith in
      rw (e, t, k, b, is)

  pub digits_value : (v : ℕ) → v ≡ unwrap_or m 0 → v ≡ tail_digits tail r
  digits_value v g = g ∙ or_given m ∙ told_so

-- ---- a fix: what its decimals are where they are few

pub few_decimals : (f : Fix) (t : Bool) → t ≡ is_fine f → not t ≡ false → (f.time.decimals ≤ 4) × (f.lat.decimals ≤ 4) × (f.lon.decimals ≤ 4)
unfolding is_fine
few_decimals f t e g =
    let o = and_inv (leb f.time.decimals 3 && leb f.lat.decimals 4) _ (sym e ∙ not-false t g) in
    let b = and_inv (leb f.time.decimals 3) _ o.0 in
    let three = leb-true f.time.decimals 3 b.0 in
    (omega arith, leb-true _ _ b.1, leb-true _ _ o.1)

-- ---- whether a column was found that breaks its rule

pub none_breaks : (o : Option ℕ) → o ≡ None → true ≡ given o true (λ v. false)
none_breaks o e = rw e

pub one_breaks : (o : Option ℕ) (v : ℕ) → o ≡ Some v → false ≡ given o true (λ w. false)
one_breaks o v e = rw e
