-- Document 01, 'Marked examples .. and a listing': what the listing program prints.
use Rattle.std.specs.Prelude.{ℕ, zero, suc, ◌+◌, ◌/◌, ◌%◌, cond, List, [], ◌∷◌, ◌++◌, ltb, leb, ℤ, pos, negsuc, length, Some}
use Prim.Native.Char.{code}
use Rattle.rules.specs.Families.{first_start, layout_of, count_of}
use Rattle.rules.specs.Choice.{need, bytes}
use Rattle.rules.specs.Refusals.{Said, says, refuses, no}
use Rattle.rules.specs.Listed.{code_text}
use Rattle.rules.specs.Layouts.{line_length, entries_of, span_of, column_text}
use Rattle.rules.specs.Split.{Lines, end, broken, line, lines_of}
use Rattle.rules.specs.Reads.{fields_said}
use Rattle.rules.specs.Files.{verdict}
use Rattle.rules.specs.declared.Reason.TheVariants.{InputOver}
use Rattle.rules.specs.declared.Entry.{Entry}
use Rattle.rules.specs.declared.Layout.{Layout}
use Rattle.rules.specs.declared.Extra.TheVariants as extra
use Rattle.rules.specs.declared.Family.{Family}
use Rattle.rules.specs.declared.Family.TheVariants as family
use Rattle.rules.specs.declared.FixFields.{FixFields}
use Rattle.rules.specs.declared.Flight.{Flight}
use Rattle.rules.specs.declared.Seal.TheVariants as seal

-- n in decimal with no zero in front, in at most k digits
unfoldable pub decimal_in : ℕ → ℕ → List ℕ
decimal_in zero n = []
decimal_in (suc k) n = cond (ltb n 10) ((48 + n) ∷ []) (decimal_in k (n / 10) ++ ((48 + n % 10) ∷ []))

-- a number below 2^64 has at most 20 digits
unfoldable pub decimal : ℕ → List ℕ
decimal n = decimal_in 20 n

-- each value on a printed line stands behind a space
abbrev pub shown : ℕ → List ℕ
shown n = code " " ∷ decimal n

abbrev pub shown_letter : ℕ → List ℕ
shown_letter b = code " " ∷ b ∷ []

abbrev pub shown_metres : ℤ → List ℕ
shown_metres (pos n) = shown n
shown_metres (negsuc n) = code " " ∷ code "-" ∷ decimal (n + 1)

-- "ends each printed line with LF"
abbrev pub lf : List ℕ
lf = 10 ∷ []

-- "A refusal prints only REFUSED, number, line, byte."
unfoldable pub refused_text : ℕ → ℕ → ℕ → List ℕ
unfolding bytes
refused_text n l b = bytes "REFUSED" ++ (shown n ++ (shown l ++ (shown b ++ lf)))

-- the count of a family's lines, and their length
abbrev pub count_shown : Family → Flight → List ℕ
count_shown f v = shown (count_of f v.counts)

abbrev pub length_shown : Family → Flight → List ℕ
length_shown f v = shown (line_length (first_start f) (layout_of f v.layouts))

-- "OK: lines, B lines, K lines, B length, K length."; "the listing's OK line gets the N count and N length as two more fields at its end"
unfoldable pub ok_text : Flight → List ℕ
unfolding bytes
ok_text f =
    bytes "OK" ++ (shown f.lines
    ++ (count_shown family.B f
    ++ (count_shown (family.Extra extra.K) f
    ++ (length_shown family.B f
    ++ (length_shown (family.Extra extra.K) f
    ++ (count_shown (family.Extra extra.N) f
    ++ (length_shown (family.Extra extra.N) f
    ++ lf)))))))

-- "FIX: line, seconds, latitude and letter, longitude and letter, validity, pressure and GNSS altitude."
unfoldable pub fix_shown : ℕ → FixFields → List ℕ
unfolding bytes
fix_shown n f =
    bytes "FIX" ++ (shown n
    ++ (shown f.time
    ++ (shown f.lat.count
    ++ (shown_letter f.lat.letter
    ++ (shown f.lon.count
    ++ (shown_letter f.lon.letter
    ++ (shown_letter f.validity
    ++ (shown_metres f.pressure.metres
    ++ (shown_metres f.gnss.metres
    ++ lf)))))))))

-- "COL: code and text, in layout order, under each fix."
unfoldable pub column_shown : List ℕ → Entry → List ℕ
unfolding bytes
column_shown l e = bytes "COL " ++ (code_text e.code ++ (code " " ∷ (column_text l (span_of e) ++ lf)))

unfoldable pub columns_shown : List ℕ → List Entry → List ℕ
columns_shown l [] = []
columns_shown l (e ∷ es) = column_shown l e ++ columns_shown l es

-- the fields of a B line's fix with its columns; nothing for another line
unfoldable pub line_shown : ℕ → Layout → List ℕ → Said FixFields → List ℕ
line_shown n layout l (says f) = fix_shown n f ++ columns_shown l (entries_of layout)
line_shown n layout l (refuses k m b) = []

-- the lines from number n on
unfoldable pub fixes_shown : ℕ → Layout → Lines → List ℕ
fixes_shown n layout end = []
fixes_shown n layout (broken k) = []
fixes_shown n layout (line t ls) = line_shown n layout t (fields_said family.B t layout) ++ fixes_shown (n + 1) layout ls

unfoldable pub listed_as : List ℕ → Said Flight → List ℕ
listed_as file (says f) = ok_text f ++ fixes_shown 1 f.layouts.b (lines_of file)
listed_as file (refuses n l b) = refused_text n l b

-- "The listing program reads standard input, lends a table of 16,384 entries"; "21 INPUT_OVER: program's input over 65,536 bytes; 0, 0". It asks for the usual check: "instructors want
-- their flights too", and only "the badge list and the merge of CR 3 must now ask for" the strict one
unfoldable pub listing : List ℕ → List ℕ
listing input = listed_as input (need (leb (length input) 65536) (no InputOver 0) λ _. verdict seal.Usual input (Some 16384))
