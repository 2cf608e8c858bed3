-- Document 01, 'I and J layouts': a position as a pair of f64 degrees, for the map.
use Rattle.std.specs.Prelude.{ℕ, ◌*◌, ◌^◌, Bool, false, not, ◌&&◌, cond, eqb, leb, Float}
use Prim.Native.Char.{code}
use Rattle.std.specs.Float.{binary64}
use Rattle.std.specs.Float.Ieee.{round, neg}
use Rattle.rules.specs.Choice.{need}
use Rattle.rules.specs.Refusals.{Said, says, no, refusal}
use Rattle.rules.specs.Fields.{is_either, most_latitude, most_longitude}
use Rattle.rules.specs.declared.Reason.TheVariants.{BadValue}
use Rattle.rules.specs.declared.Position.{Position}
use Rattle.rules.specs.declared.FinePosition.{FinePosition}
use Rattle.rules.specs.declared.Degrees.{Degrees}

-- "the count over 60,000, one rounded division"; "The map's degrees use the finer count over 60,000 times that power of ten, still one division." (document 02): `round` takes the
-- exact fraction to the nearest f64, once
unfoldable pub quotient : ℕ → ℕ → Float
quotient count decimals = round binary64 false count (60000 * 10 ^ decimals)

-- "negated for S and W, and plain zero for count 0 under either letter"
unfoldable pub is_negated : FinePosition → Bool
is_negated p = not (eqb p.count 0) && is_either p.letter (code "S") (code "W")

-- one coordinate in degrees
unfoldable pub angle : FinePosition → Float
angle p = cond (is_negated p) (neg (quotient p.count p.decimals)) (quotient p.count p.decimals)

-- a count that is `most` at most, with the letter a or b
unfoldable pub is_position : ℕ → ℕ → ℕ → Position → Bool
is_position most a b p = leb p.count most && is_either p.letter a b

abbrev pub is_latitude : Position → Bool
is_latitude p = is_position most_latitude (code "N") (code "S") p

abbrev pub is_longitude : Position → Bool
is_longitude p = is_position most_longitude (code "E") (code "W") p

-- the same with extra decimals, "up to 4": the finer count is no more than the limit times that power of ten
unfoldable pub is_fine_position : ℕ → ℕ → ℕ → FinePosition → Bool
is_fine_position most a b p =
    need (leb p.decimals 4) false λ _.
    leb p.count (most * 10 ^ p.decimals) && is_either p.letter a b

abbrev pub is_fine_latitude : FinePosition → Bool
is_fine_latitude p = is_fine_position most_latitude (code "N") (code "S") p

abbrev pub is_fine_longitude : FinePosition → Bool
is_fine_longitude p = is_fine_position most_longitude (code "E") (code "W") p

-- "For the map, a position also comes as a pair of f64 degrees"; 17 for a value that is not allowed
unfoldable pub degrees_of : FinePosition → FinePosition → Said Degrees
degrees_of lat lon =
    need (is_fine_latitude lat) (no BadValue 0) λ _.
    need (is_fine_longitude lon) (no BadValue 0) λ _.
    says (record { lat = angle lat; lon = angle lon })

-- the answer, in the paper's terms
