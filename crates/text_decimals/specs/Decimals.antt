-- A time and a position in degrees as text, with the decimals that the file has. No document describes it (docs/DECISIONS.md).
use Rattle.std.specs.Prelude.{ℕ, ◌+◌, ◌*◌, ◌/◌, ◌^◌, cond, List, [], ◌∷◌, ◌++◌, eqb}
use Prim.Native.Char.{code}
use Rattle.rules.specs.Choice.{part}
use Rattle.rules.specs.Numbers.{digits_of}
use Rattle.rules.specs.Fields.{time_text}
use Rattle.rules.specs.Fixes.{plain}
use Rattle.rules.specs.Degrees.{is_negated}
use Rattle.rules.specs.Listing.{decimal}
use Rattle.rules.specs.declared.FineTime.{FineTime}
use Rattle.rules.specs.declared.FinePosition.{FinePosition}
use Rattle.byte_tens.specs.Tens.{few_of}

-- ---- time

-- six digits, with a colon behind the second and the fourth
unfoldable pub colons : List ℕ → List ℕ
colons s = part 0 2 s ++ (code ":" ∷ (part 2 4 s ++ (code ":" ∷ part 4 6 s)))

-- a dot and the last n digits of a number
unfoldable pub behind_dot : ℕ → ℕ → List ℕ
behind_dot n v = code "." ∷ digits_of n v

-- the extra decimals of a count, behind a dot; nothing where there are none
unfoldable pub extra_shown : ℕ → ℕ → List ℕ
extra_shown n v = cond (eqb n 0) [] (behind_dot n v)

-- a time as its field has it, HH:MM:SS; 86,400 is 23:59:60. Of a time past that, which no line has, the last two digits of its hours
unfoldable pub shown_seconds : ℕ → List ℕ
shown_seconds t = code " " ∷ colons (time_text t)

-- and its extra decimals; of more than 4, which no line has, 4 are taken
unfoldable pub shown_clock : FineTime → List ℕ
shown_clock t = shown_seconds (plain t.count (few_of t.decimals)) ++ extra_shown (few_of t.decimals) t.count

-- the same behind any mark
unfoldable pub seconds_behind : ℕ → ℕ → List ℕ
seconds_behind mark t = mark ∷ colons (time_text t)

unfoldable pub clock_behind : ℕ → FineTime → List ℕ
clock_behind mark t = seconds_behind mark (plain t.count (few_of t.decimals)) ++ extra_shown (few_of t.decimals) t.count

-- ---- degrees

-- the millionths of a degree that a count of thousandths of a minute is nearest to: count / 60,000 degrees are count × 50 / 3 millionths, which are never half way between two. Of a count
-- with extra decimals, units that are finer by as many decimals
unfoldable pub units_of : ℕ → ℕ
units_of count = (count * 50 + 1) / 3

-- so many units, as a whole number and n decimals
unfoldable pub with_decimals : ℕ → ℕ → List ℕ
with_decimals n v = decimal (v / 10 ^ n) ++ behind_dot n v

-- a position in degrees: south and west with a minus, and a count of 0 without one under either letter; six decimals and its extra ones, of which 4 at most are taken
unfoldable pub shown_degrees : FinePosition → List ℕ
shown_degrees p = code " " ∷ (cond (is_negated p) (code "-" ∷ []) [] ++ with_decimals (6 + few_of p.decimals) (units_of p.count))

-- the same behind any mark
unfoldable pub degrees_behind : ℕ → FinePosition → List ℕ
degrees_behind mark p = mark ∷ (cond (is_negated p) (code "-" ∷ []) [] ++ with_decimals (6 + few_of p.decimals) (units_of p.count))
