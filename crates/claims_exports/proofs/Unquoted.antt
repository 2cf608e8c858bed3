-- A moment, a position and a height behind their mark are of plain bytes, so that no field of a CSV line and nothing in a GPX point needs a quote. Assumes nothing.
use Prim.Native.Nat.{ℕ, zero, suc, ◌+◌, ◌/◌, ◌%◌, ◌^◌, ◌≤◌, ◌<◌}
use mathlib.Core.Bool.{Bool, true, false, cond}
use mathlib.Core.List.{List, [], ◌∷◌, ◌++◌}
use mathlib.Core.Path.{◌≡◌, refl}
use native.Mathlib.Omega.{arith}
use borrow.Author.Tests.{le-leb, ltb-true}
use lib.Dec.{ltb, leb, eqb}
use lib.IntN.{ℤ, pos, negsuc}
use lib.ListN.{drop}
use Rattle.rules.specs.Choice.{Each}
use Rattle.rules.specs.Numbers.{digits_of}
use Rattle.rules.specs.Fields.{time_text}
use Rattle.rules.specs.Fixes.{plain}
use Rattle.rules.specs.Degrees.{is_negated}
use Rattle.rules.specs.Listing.{decimal, decimal_in}
use Rattle.rules.specs.declared.Date.{Date}
use Rattle.rules.specs.declared.FineTime.{FineTime}
use Rattle.rules.specs.declared.FinePosition.{FinePosition}
use Rattle.rules.proofs.Times.{by_pairs}
use Rattle.rules_trips.proofs.Each.{each_join}
use Rattle.byte_tens.specs.Tens.{few_of}
use Rattle.text_dates.specs.Dates.{two_digits, date_shown}
use Rattle.text_decimals.specs.Decimals.{colons, behind_dot, extra_shown, seconds_behind, clock_behind, units_of, with_decimals, degrees_behind}
use Rattle.text_instant.specs.Instants.{instant_shown, metres_behind}
use Rattle.claims_exports.specs.Fields.{is_plain, Plain}

joined : (a b : List ℕ) → Plain a → Plain b → Plain (a ++ b)
joined a b p q = each_join (λ x. is_plain x ≡ true) a b p q

digit : (n : ℕ) → n < 10 → is_plain (48 + n) ≡ true
unfolding is_plain
digit n h =
    let a : 45 ≤ 48 + n = omega arith in
    let b : 48 + n ≤ 58 = omega arith in
    rw (le-leb 45 (48 + n) a, le-leb (48 + n) 58 b)

digits : (n v : ℕ) → Plain (digits_of n v)
unfolding digits_of
digits zero v = tt
digits (suc n) v = joined (digits_of n (v / 10)) ((48 + v % 10) ∷ []) (digits n (v / 10)) (digit (v % 10) (omega arith), tt)

number_in : (k n : ℕ) → Plain (decimal_in k n)
unfolding decimal_in
number_in zero n = tt
number_in (suc k) n = by (ltb n 10) refl (number_in k (n / 10))
  where
    by : (t : Bool) → ltb n 10 ≡ t → Plain (decimal_in k (n / 10)) → Plain (cond t ((48 + n) ∷ []) (decimal_in k (n / 10) ++ ((48 + n % 10) ∷ [])))
    by true e h = (digit n (ltb-true n 10 e), tt)
    by false e h = joined (decimal_in k (n / 10)) ((48 + n % 10) ∷ []) h (digit (n % 10) (omega arith), tt)

number : (n : ℕ) → Plain (decimal n)
unfolding decimal
number n = number_in 20 n

-- whole metres, behind their mark
pub height_plain : (mark : ℕ) (z : ℤ) → Plain (drop 1 (metres_behind mark z))
unfolding is_plain
height_plain mark (pos n) = number n
height_plain mark (negsuc n) = (refl, number (n + 1))

tens : (v : ℕ) → is_plain (48 + v / 10 % 10) ≡ true
tens v = digit (v / 10 % 10) (omega arith)

ones : (v : ℕ) → is_plain (48 + v % 10) ≡ true
ones v = digit (v % 10) (omega arith)

pair : (mark n : ℕ) → is_plain mark ≡ true → Plain (two_digits mark n)
unfolding two_digits
pair mark n e = (e, (tens n, (ones n, tt)))

date : (d : Date) → Plain (date_shown d)
unfolding date_shown is_plain
date d = joined (decimal d.year) (two_digits 45 d.month ++ two_digits 45 d.day) (number d.year) (joined (two_digits 45 d.month) (two_digits 45 d.day) (pair 45 d.month refl) (pair 45 d.day refl))

seconds : (t : ℕ) → Plain (colons (time_text t))
unfolding colons digits_of is_plain
seconds = by_pairs (λ l. Plain (colons l)) (λ a b c. (tens a, (ones a, (refl, (tens b, (ones b, (refl, (tens c, (ones c, tt)))))))))

extra : (n v : ℕ) → Plain (extra_shown n v)
unfolding extra_shown behind_dot is_plain
extra n v = by (eqb n 0)
  where
    by : (t : Bool) → Plain (cond t [] (46 ∷ digits_of n v))
    by true = tt
    by false = (refl, digits n v)

clock : (mark : ℕ) (t : FineTime) → is_plain mark ≡ true → Plain (clock_behind mark t)
unfolding clock_behind seconds_behind
clock mark t e =
    let n = few_of t.decimals in
    joined (mark ∷ colons (time_text (plain t.count n))) (extra_shown n t.count) (e, seconds (plain t.count n)) (extra n t.count)

-- a moment
pub instant_plain : (d : Date) (t : FineTime) → Plain (instant_shown d t)
unfolding instant_shown is_plain
instant_plain d t = joined (date_shown d) (clock_behind 84 t ++ (90 ∷ [])) (date d) (joined (clock_behind 84 t) (90 ∷ []) (clock 84 t refl) (refl, tt))

-- a position, behind its mark
pub degrees_plain : (mark : ℕ) (p : FinePosition) → Plain (drop 1 (degrees_behind mark p))
unfolding degrees_behind with_decimals behind_dot is_plain
degrees_plain mark p =
    let n = 6 + few_of p.decimals in
    let v = units_of p.count in
    joined (cond (is_negated p) (45 ∷ []) []) (decimal (v / 10 ^ n) ++ (46 ∷ digits_of n v)) (sign (is_negated p)) (joined (decimal (v / 10 ^ n)) (46 ∷ digits_of n v) (number (v / 10 ^ n)) (refl, digits n v))
  where
    sign : (t : Bool) → Plain (cond t (45 ∷ []) [])
    sign true = (refl, tt)
    sign false = tt
