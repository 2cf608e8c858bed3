-- Document 02, request 9: counts with extra decimals, and the digits of LAD and LOD at a limit; and document 01, 'I and J layouts': the degrees of a position.
use Rattle.std.specs.Prelude.{ℕ, ◌+◌, ◌*◌, ◌^◌, ◌≤◌, ◌<◌, false, List, ◌⊎◌, ◌≡◌, pos, Float}
use Prim.Native.Char.{code}
use Rattle.std.specs.Float.{fin, binary64}
use Rattle.std.specs.Float.Ieee.{round, neg}
use Rattle.rules.specs.Choice.{bytes, Each}
use Rattle.rules.specs.declared.FinePosition.{FinePosition}
use Rattle.rules.specs.declared.FixFields.{FixFields}

-- "Latitude, longitude and time .. each become a count with a number of extra decimals": "the count without the extra digits" is what is left of it when its
-- last digits, one for each decimal, are taken away
pub record IsPlain (count decimals old : ℕ) : Type 0 where
  pub digits : ℕ
  pub few : digits < 10 ^ decimals
  pub is : count ≡ old * 10 ^ decimals + digits

-- a latitude with its extra decimals, "up to 4"
pub record IsFineLatitude (p : FinePosition) : Type 0 where
  pub few : p.decimals ≤ 4
  pub most : p.count ≤ 90 * 60 * 1000 * 10 ^ p.decimals
  pub letter : (p.letter ≡ code "N") ⊎ (p.letter ≡ code "S")

pub record IsFineLongitude (p : FinePosition) : Type 0 where
  pub few : p.decimals ≤ 4
  pub most : p.count ≤ 180 * 60 * 1000 * 10 ^ p.decimals
  pub letter : (p.letter ≡ code "E") ⊎ (p.letter ≡ code "W")

-- "the count over 60,000, one rounded division"; "the finer count over 60,000 times that power of ten, still one division" (document 02): the f64 nearest to that fraction
abbrev pub in_degrees : FinePosition → Float
in_degrees p = round binary64 false p.count (60000 * 10 ^ p.decimals)

-- "negated for S and W, and plain zero for count 0 under either letter"
pub data IsAngle (p : FinePosition) : Float → Type 0 where
  nought : p.count ≡ 0 → IsAngle p (fin false 0 (pos 0))
  negated : 1 ≤ p.count → (p.letter ≡ code "S") ⊎ (p.letter ≡ code "W") → IsAngle p (neg (in_degrees p))
  as_it_is : 1 ≤ p.count → (p.letter ≡ code "S" → ⊥) → (p.letter ≡ code "W" → ⊥) → IsAngle p (in_degrees p)

-- "LAD or LOD digits other than zeros break their column's rule where the plain count is already at its limit.": the columns that can only hold zeros, where `AtLat` says that the
-- latitude of their line is at its limit, and `AtLon` that the longitude is
pub data OnlyZeros (AtLat AtLon : Type 0) (name : List ℕ) : Type 0 where
  lad : name ≡ bytes "LAD" → AtLat → OnlyZeros AtLat AtLon name
  lod : name ≡ bytes "LOD" → AtLon → OnlyZeros AtLat AtLon name

-- a text of zeros
abbrev pub Zeros : List ℕ → Type 0
Zeros t = Each (λ b. b ≡ code "0") t

-- "where the plain count is already at its limit": 90 degrees, and 180 degrees
abbrev pub AtLatitude : FixFields → Type 0
AtLatitude f = f.lat.count ≡ 90 * 60 * 1000

abbrev pub AtLongitude : FixFields → Type 0
AtLongitude f = f.lon.count ≡ 180 * 60 * 1000
