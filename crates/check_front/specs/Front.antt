-- A B line whose fields before the columns, the hours of its time apart, are told to be good by bounds for each byte, and the promise of the test.
use Rattle.std.specs.Prelude.{ℕ, Bool, true, false, ◌&&◌, ◌||◌, List, [], ◌∷◌, ◌≡◌, leb, get_or, drop}
use Prim.Native.Char.{code}
use Rattle.rules.specs.Choice.{byte, bytes}
use Rattle.rules.specs.Fields.{is_either}

-- a byte is neither below a bound nor above another
unfoldable pub is_within : ℕ → ℕ → ℕ → Bool
is_within low high b = leb low b && leb b high

-- the bytes at the front of l are within their bounds, place by place; false where l ends before
unfoldable pub between : List ℕ → List ℕ → List ℕ → Bool
between [] high l = true
between (a ∷ low) [] l = false
between (a ∷ low) (z ∷ high) [] = false
between (a ∷ low) (z ∷ high) (b ∷ l) = is_within a z b && between low high l

-- the bounds of bytes 4 to 35 of a B line: minutes and seconds of its time, latitude, longitude, validity, and two altitudes that are not below zero
abbrev pub lows : List ℕ
lows = bytes "00000000000N00000000EA0000000000"

-- longitudes below 80 degrees, and from 100 up to 179
abbrev pub highs : List ℕ
highs = bytes "59598959999S17959999WV9999999999"

-- longitudes below 100 degrees
abbrev pub nears : List ℕ
nears = bytes "59598959999S09959999WV9999999999"

unfoldable pub is_bounded : List ℕ → Bool
is_bounded l = between lows highs (drop (byte 4) l) || between lows nears (drop (byte 4) l)

-- within the bounds, and the letters are right
unfoldable pub is_front : List ℕ → Bool
is_front l =
    is_bounded l
    && (is_either (get_or l (byte 15) 0) (code "N") (code "S")
    && (is_either (get_or l (byte 24) 0) (code "E") (code "W")
    && is_either (get_or l (byte 25) 0) (code "A") (code "V")))

abbrev pub FrontTest : List ℕ → Bool → Type 0
FrontTest l r = r ≡ is_front l

-- ---- the same by one range of bounds and two bytes

-- longitudes up to 199 degrees
abbrev pub wides : List ℕ
wides = bytes "59598959999S19959999WV9999999999"

-- below 180 degrees, by the first two of three digits, which are below 200
unfoldable pub is_below : ℕ → ℕ → Bool
is_below hundreds tens = leb hundreds (code "0") || leb tens (code "7")

abbrev pub BelowTest : ℕ → ℕ → Bool → Type 0
BelowTest hundreds tens r = r ≡ is_below hundreds tens
