-- Document 01, 'Refusal numbers', with the numbers of document 02: the name of each number and when it is given, in the documents' own words; and the promises of this crate.
use Rattle.std.specs.Prelude.{ℕ, ◌-◌, List, [], ◌∷◌, map, ◌≡◌, get_or}
use Prim.Native.String.{String}
use Rattle.text_pieces.specs.Buffer.{PiecePut}
use Rattle.rules.specs.Choice.{bytes}
use Rattle.rules.specs.Refusals.{number}
use Rattle.rules.specs.declared.Reason.{Reason}

pub record Row : Type 0 where
  pub name : List ℕ
  pub meaning : List ℕ

abbrev row : String → String → Row
row n m = record { name = bytes n; meaning = bytes m }

-- "Name | Given when": the row of number 1 first, then each number's after the other
unfoldable pub rows : List Row
rows =
    row "EMPTY" "no bytes"
    ∷ row "TOO_LONG" "over the limit"
    ∷ row "LINE_END" "first CR or LF is not CR LF, or none comes"
    ∷ row "EMPTY_LINE" "length 0"
    ∷ row "KIND" "first byte not A to Z"
    ∷ row "ORDER" "kind not allowed here"
    ∷ row "LENGTH" "outside its limits"
    ∷ row "CHARACTER" "first invalid one"
    ∷ row "FORM" "first field against its rule"
    ∷ row "TILE" "SS or FF wrong"
    ∷ row "TWICE" "code again"
    ∷ row "WIDTH" "listed code, wrong width"
    ∷ row "COLUMN" "listed column against its rule"
    ∷ row "BACK" "time falls"
    ∷ row "TABLE_FULL" "good line, no entry left"
    -- "16 in the usual check only for an unfinished declaration, and for a file that ends before its second line"; "A separate strict check keeps the old rule"
    ∷ row "ENDS_EARLY" "end inside a declaration, before line 2, or in the strict check without G"
    ∷ row "BAD_VALUE" "value, layout, line number or place given is not allowed"
    ∷ row "NO_ROOM" "output shorter than place + length + 2"
    ∷ row "ABSENT" "code (any 3 bytes) not in the layout"
    ∷ row "NOT_NUMBER" "column is no such number"
    ∷ row "INPUT_OVER" "program's input over 65,536 bytes"
    -- "A time field that breaks its rule becomes TIME, a latitude or longitude POSITION, an altitude ALTITUDE, a date DATE"
    ∷ row "TIME" "time field against its rule"
    ∷ row "POSITION" "latitude or longitude against its rule"
    ∷ row "ALTITUDE" "altitude against its rule"
    ∷ row "DATE" "date against its rule"
    -- "Given two accepted files equal in every byte up to the end of the last G line"; "26 NOT_SAME"
    ∷ row "NOT_SAME" "files differ before the end of the last G line"
    -- "27 SHELF if the buffer breaks these rules, then the file's own, then 28 ID for number 0 or one in use, 29 ENTRIES when none is free, 30 NO_RUN exactly when no free run is long enough,
    -- 31 NOT_FOUND for asking for or removing 0 or a number not held"
    ∷ row "SHELF" "buffer breaks the rules of a shelf"
    ∷ row "ID" "flight number is 0 or in use"
    ∷ row "ENTRIES" "no entry is free"
    ∷ row "NO_RUN" "no free run is long enough"
    ∷ row "NOT_FOUND" "flight number is 0 or not held"
    ∷ []

unfoldable pub names : List (List ℕ)
names = map (λ (r : Row). r.name) rows

unfoldable pub meanings : List (List ℕ)
meanings = map (λ (r : Row). r.meaning) rows

unfoldable pub name : Reason → List ℕ
name reason = get_or names (number reason - 1) []

unfoldable pub meaning : Reason → List ℕ
meaning reason = get_or meanings (number reason - 1) []

-- ---- the promises

abbrev pub NumberOf : Reason → ℕ → Type 0
NumberOf reason r = r ≡ number reason

abbrev pub NamePut : Reason → List ℕ → ℕ → ℕ → List ℕ → Type 0
NamePut reason out at r after = PiecePut out at (name reason) r after

abbrev pub MeaningPut : Reason → List ℕ → ℕ → ℕ → List ℕ → Type 0
MeaningPut reason out at r after = PiecePut out at (meaning reason) r after
