-- Document 01, 'I and J layouts': the listed codes, and what their columns hold.
use Rattle.std.specs.Prelude.{ℕ, ◌+◌, ◌*◌, ◌/◌, ◌%◌, Bool, true, false, not, ◌&&◌, ◌||◌, cond, List, [], ◌∷◌, eqb, leb, length, get_or, drop, None, Option, Some}
use Prim.Native.Char.{code}
use Prim.Native.String.{String}
use Rattle.rules.specs.Choice.{given, need, first_of, leads, bytes}
use Rattle.rules.specs.Chars.{is_digit, is_code, codes_at}
use Rattle.rules.specs.declared.AtLimit.{AtLimit}
use Rattle.rules.specs.declared.Listed.{Listed}

-- the three characters of a code as one number, the first one highest
abbrev pub packed : ℕ → ℕ → ℕ → ℕ
packed a b c = a * 65536 + b * 256 + c

-- the same of a list of three
abbrev pub packed_of : List ℕ → ℕ
packed_of l = packed (get_or l 0 0) (get_or l 1 0) (get_or l 2 0)

-- and the number's three characters again
abbrev pub code_text : ℕ → List ℕ
code_text x = (x / 65536) ∷ (x / 256 % 256) ∷ (x % 256) ∷ []

-- "a code CCC of 3 code characters"
unfoldable pub code_at : List ℕ → ℕ → Option ℕ
code_at s at =
    need (codes_at s at 3) None λ _.
    Some (packed (get_or s at 0) (get_or s (at + 1) 0) (get_or s (at + 2) 0))

-- a number that three code characters make
unfoldable pub is_code_word : ℕ → Bool
is_code_word x = is_code (x / 65536) && is_code (x / 256 % 256) && is_code (x % 256)

-- one listed code: its name, its least and most width, and whether a minus may come first
abbrev pub row : String → ℕ → ℕ → Bool → Listed
unfolding bytes
row name least most sign = record { code = packed_of (bytes name); least = least; most = most; sign = sign }

-- "Listed codes, numbered 0 to 14 in this order, with least and most width"; "FLP, DAE, DAN may have a minus first"
unfoldable pub listed : List Listed
unfolding bytes
listed =
    row "FXA" 3 3 false ∷
    row "SIU" 2 2 false ∷
    row "ENL" 3 3 false ∷
    row "MOP" 3 3 false ∷
    row "IAS" 3 3 false ∷
    row "FLP" 3 3 true ∷
    row "HDM" 3 6 false ∷
    row "HDT" 3 6 false ∷
    row "TRM" 3 6 false ∷
    row "TRT" 3 6 false ∷
    row "TDS" 1 3 false ∷
    row "LAD" 1 4 false ∷
    row "LOD" 1 4 false ∷
    row "DAE" 2 6 true ∷
    row "DAN" 2 6 true ∷
    []

-- what stands past the table
abbrev pub unlisted : Listed
unlisted = record { code = 0; least = 0; most = 0; sign = false }

-- a code's number in the table, where it is listed
unfoldable pub listed_number : ℕ → Option ℕ
listed_number x = first_of (λ r. eqb r.code x) (λ n r. n) listed 0

-- "12 WIDTH: listed code, wrong width"; "An unlisted code may have any width and any text."
unfoldable pub width_fits : ℕ → ℕ → Bool
width_fits x w =
    given (listed_number x) true λ n.
    leb (get_or listed n unlisted).least w && leb w (get_or listed n unlisted).most

-- every byte of the text is a digit
unfoldable pub is_digits : List ℕ → Bool
is_digits t = leads is_digit (length t) t

-- "Their columns hold digits; FLP, DAE, DAN may have a minus first with at least one digit after it."
unfoldable pub keeps_sign : Bool → List ℕ → Bool
keeps_sign sign t = is_digits t || (sign && eqb (get_or t 0 0) (code "-") && leb 2 (length t) && is_digits (drop 1 t))

-- the text of a column against the rule of its code
unfoldable pub keeps_rule : ℕ → List ℕ → Bool
keeps_rule x t = given (listed_number x) true λ n. keeps_sign (get_or listed n unlisted).sign t

-- the codes of finer digits: of a time, of a latitude, of a longitude
abbrev pub tds : ℕ
unfolding bytes
tds = packed_of (bytes "TDS")

abbrev pub lad : ℕ
unfolding bytes
lad = packed_of (bytes "LAD")

abbrev pub lod : ℕ
unfolding bytes
lod = packed_of (bytes "LOD")

-- every byte of the text is a zero
unfoldable pub is_zeros : List ℕ → Bool
is_zeros t = leads (λ b. eqb b (code "0")) (length t) t

-- neither coordinate is at its limit, or there is none
abbrev pub off_limit : AtLimit
off_limit = record { lat = false; lon = false }

-- Document 02, request 9: "LAD or LOD digits other than zeros break their column's rule where the plain count is already at its limit."
unfoldable pub is_past : AtLimit → ℕ → List ℕ → Bool
is_past at x t = (at.lat && (eqb x lad && not (is_zeros t))) || (at.lon && (eqb x lod && not (is_zeros t)))

-- the text of a column of a line, which has these coordinates at their limits, against the rule of its code
unfoldable pub keeps_limit : AtLimit → ℕ → List ℕ → Bool
keeps_limit at x t = cond (is_past at x t) false (keeps_rule x t)
