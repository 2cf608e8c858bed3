-- What a person reads of a line by a byte of it: as much of its text as has room, and a caret under the byte; and the promises of this crate.
use Rattle.std.specs.Prelude.{ℕ, ◌-◌, ◌&&◌, cond, List, [], ◌∷◌, ◌++◌, map, ◌≡◌, eqb, leb, length, take, drop, replicate}
use Prim.Native.Char.{code}
use Rattle.text_pieces.specs.Buffer.{PiecePut}
use Rattle.rules.specs.Listing.{lf}

-- a byte as it is shown: itself from hex 20 to 7E, else a question mark, so that each byte takes one place and a terminal is not disturbed
unfoldable pub visible : ℕ → ℕ
visible b = cond (leb 32 b && leb b 126) b (code "?")

-- How many bytes of the line stand before those shown. A byte among the first 80 is shown with these; one further on with 40 bytes before it and 39 after it.
unfoldable pub before : ℕ → ℕ
before b = cond (leb b 80) 0 (b - 41)

-- at most 80 bytes, so that the byte named is among them
unfoldable pub window : ℕ → List ℕ → List ℕ
window b text = take 80 (drop (before b) text)

unfoldable pub window_line : ℕ → List ℕ → List ℕ
window_line b text = map visible (window b text) ++ lf

-- "bytes in a line count from 1": the caret stands under byte b, also where that is one past the text (3)
unfoldable pub caret_line : ℕ → List ℕ
caret_line b = replicate (b - 1 - before b) (code " ") ++ (code "^" ∷ lf)

-- Byte 0 (7, 15, 16) has no caret; and a line past the last one (16) has no text.
unfoldable pub quote : ℕ → List ℕ → List ℕ
quote b text = cond (eqb b 0) (cond (eqb (length text) 0) [] (window_line 0 text)) (window_line b text ++ caret_line b)

-- ---- the promises

abbrev pub BytesBefore : ℕ → ℕ → Type 0
BytesBefore b r = r ≡ before b

abbrev pub QuotePut : ℕ → List ℕ → List ℕ → ℕ → ℕ → List ℕ → Type 0
QuotePut b text out at r after = PiecePut out at (quote b text) r after
