-- Document 01, 'Fields': how far a time, a position and an altitude go, and so the fields of a fix.
use Rattle.std.specs.Prelude.{ℕ, ◌+◌, ◌*◌, ◌≤◌, ◌⊎◌, ◌≡◌, pos, neg_ℤ}
use Prim.Native.Char.{code}
use Rattle.rules.specs.declared.Position.{Position}
use Rattle.rules.specs.declared.Height.{Height}
use Rattle.rules.specs.declared.FixFields.{FixFields}

-- "Time: HHMMSS, 00 to 23, 00 to 59, 00 to 59, read as seconds of the day."; document 02: seconds are "also 60 when hours and minutes are 23 and 59. That time reads as 86,400"
pub data IsTime (t : ℕ) : Type 0 where
  usual : (h m x : ℕ) → h ≤ 23 → m ≤ 59 → x ≤ 59 → t ≡ h * 3600 + m * 60 + x → IsTime t
  leap : t ≡ 86400 → IsTime t

-- "Position: a count of thousandths of a minute with its letter kept beside it."; "Latitude at most 5,400,000": 90 degrees; "N or S"
pub record IsLatitude (p : Position) : Type 0 where
  pub most : p.count ≤ 90 * 60 * 1000
  pub letter : (p.letter ≡ code "N") ⊎ (p.letter ≡ code "S")

-- "longitude at most 10,800,000": 180 degrees; "E or W"
pub record IsLongitude (p : Position) : Type 0 where
  pub most : p.count ≤ 180 * 60 * 1000
  pub letter : (p.letter ≡ code "E") ⊎ (p.letter ≡ code "W")

-- "Altitude in metres: five digits, or a minus and four digits that are not all zero. So -9,999 to 99,999."
pub data IsAltitude (h : Height) : Type 0 where
  plain : (n : ℕ) → h.metres ≡ pos n → n ≤ 99999 → IsAltitude h
  minus : (n : ℕ) → h.metres ≡ neg_ℤ (pos n) → 1 ≤ n → n ≤ 9999 → IsAltitude h

-- "B: time ..; latitude ..; longitude ..; A or V ..; pressure altitude ..; GNSS altitude .."
pub record IsFixFields (f : FixFields) : Type 0 where
  pub time : IsTime f.time
  pub lat : IsLatitude f.lat
  pub lon : IsLongitude f.lon
  pub validity : (f.validity ≡ code "A") ⊎ (f.validity ≡ code "V")
  pub pressure : IsAltitude f.pressure
  pub gnss : IsAltitude f.gnss
