-- What each place of a line with columns may hold, as three lists of marks, and a line held against them.
use Rattle.std.specs.Prelude.{◌≡◌, ℕ, ◌+◌, ◌-◌, ◌*◌, Bool, true, false, cond, not, ◌&&◌, ◌||◌, List, [], ◌∷◌, ◌++◌, length, replicate, ◌==◌, nat_le, slice_index}
use Prim.Native.Char.{code}
use Rattle.std.proofs.lemmas.List.Edits.{sets}
use Rattle.rules.specs.Choice.{bytes}
use Rattle.rules.specs.declared.Entry.{Entry}
use Rattle.check_places.specs.declared.Marks.{Marks}
use Rattle.check_places.specs.declared.Places.{Places}

-- ---- a byte at its place

-- b is no more than `span` above a, counted on from 255 to 0
unfoldable pub is_near : ℕ → ℕ → ℕ → Bool
is_near a span b = nat_le (cond (nat_le a b) (b - a) (b + 256 - a)) span

-- near its low byte, or the other one; and neither of the two bytes from the minus to the closing brace that are not mild
unfoldable pub may_stand : ℕ → ℕ → ℕ → ℕ → Bool
may_stand low span other b = (is_near low span b || b == other) && not (b == (code "\\")) && not (b == (code "^"))

-- each byte at the front of l may stand at its place, as many places as `low` has
unfoldable pub kept : List ℕ → List ℕ → List ℕ → List ℕ → Bool
kept [] span other l = true
kept (a ∷ low) [] other l = false
kept (a ∷ low) (s ∷ span) [] l = false
kept (a ∷ low) (s ∷ span) (o ∷ other) [] = false
kept (a ∷ low) (s ∷ span) (o ∷ other) (b ∷ l) = may_stand a s o b && kept low span other l

-- ---- the marks of a line

-- by what a column must hold (0 any text, 1 digits, 2 digits that may follow a minus): the mark of its first byte, with so many more behind it
unfoldable pub first_mark : Marks → ℕ → ℕ → ℕ
first_mark m rule more = cond (rule == 0) m.text (cond (rule == 2) (cond (nat_le 1 more) m.minus m.digit) m.digit)

-- and that of the others
unfoldable pub next_mark : Marks → ℕ → ℕ
next_mark m rule = cond (rule == 0) m.text m.digit

abbrev pub column_marks : Marks → ℕ → ℕ → List ℕ
column_marks m more rule = first_mark m rule more ∷ replicate more (next_mark m rule)

abbrev pub end_marks : Marks → List ℕ
end_marks m = m.cr ∷ m.lf ∷ []

-- those of the columns of a pattern, each from its first to its last byte, and of CR LF behind them
unfoldable pub columns_marks : Marks → List ℕ → List ℕ
columns_marks m [] = end_marks m
columns_marks m (a ∷ []) = end_marks m
columns_marks m (a ∷ e ∷ []) = end_marks m
columns_marks m (a ∷ e ∷ rule ∷ rest) = column_marks m (e - a) rule ++ columns_marks m rest

-- a list of 112: the marks of the bytes before the columns, those of the columns and the end, and `any` behind; a pattern of more than 13 columns has none
unfoldable pub laid : List ℕ → Marks → List ℕ → List ℕ
laid front m pattern = cond (nat_le (length pattern) 39) (sets (sets (replicate 112 m.any) 0 front) (length front) (columns_marks m pattern)) (replicate 112 m.any)

abbrev pub low_marks : Marks
low_marks = record { digit = code "0"; minus = code "0"; text = code "-"; cr = 13; lf = 10; any = 0 }

abbrev pub span_marks : Marks
span_marks = record { digit = 9; minus = 9; text = 80; cr = 0; lf = 0; any = 255 }

abbrev pub other_marks : Marks
other_marks = record { digit = code "0"; minus = code "-"; text = code " "; cr = 13; lf = 10; any = 0 }

-- ---- the places of a B line: time, latitude, longitude below 200 degrees, validity, two altitudes that are not below zero

abbrev pub fix_lows : List ℕ
fix_lows = bytes "B0000000000000N00000000EA0000000000"

abbrev pub fix_spans : List ℕ
fix_spans =
    0 ∷ 2 ∷ 9 ∷ 5 ∷ 9 ∷ 5 ∷ 9 ∷ 8 ∷ 9 ∷ 5 ∷ 9 ∷ 9 ∷ 9 ∷ 9 ∷ 0 ∷ 1 ∷ 9 ∷ 9 ∷ 5 ∷ 9 ∷ 9 ∷ 9 ∷ 9 ∷ 0 ∷ 0 ∷ 9 ∷ 9 ∷ 9 ∷ 9 ∷ 9 ∷ 9 ∷ 9 ∷ 9 ∷ 9 ∷ 9 ∷ []

abbrev pub fix_others : List ℕ
fix_others = bytes "B0000000000000S00000000WV0000000000"

-- ---- of a K line: its time

abbrev pub extra_lows : List ℕ
extra_lows = bytes "K000000"

abbrev pub extra_spans : List ℕ
extra_spans = 0 ∷ 2 ∷ 9 ∷ 5 ∷ 9 ∷ 5 ∷ 9 ∷ []

-- ---- the promises

abbrev pub FixPlaces : List ℕ → Places → Type 0
FixPlaces pattern r = r ≡ record { low = laid fix_lows low_marks pattern; span = laid fix_spans span_marks pattern; other = laid fix_others other_marks pattern }

abbrev pub ExtraPlaces : List ℕ → Places → Type 0
ExtraPlaces pattern r = r ≡ record { low = laid extra_lows low_marks pattern; span = laid extra_spans span_marks pattern; other = laid extra_lows other_marks pattern }

abbrev pub PlacedTest : List ℕ → List ℕ → List ℕ → List ℕ → Bool → Type 0
PlacedTest l low span other r = r ≡ kept low span other l

-- the six bytes behind the first one, by what they are worth as hours, minutes and seconds
unfoldable pub worth : List ℕ → ℕ
worth l = (slice_index l 1 * 10 + slice_index l 2) * 3600 + (slice_index l 3 * 10 + slice_index l 4) * 60 + (slice_index l 5 * 10 + slice_index l 6)

-- less what six zeros are worth
unfoldable pub seconds_of : List ℕ → ℕ
seconds_of l = cond (nat_le 7 (length l)) (cond (nat_le 1933008 (worth l)) (worth l - 1933008) 86400) 86400

abbrev pub SecondsGiven : List ℕ → ℕ → Type 0
SecondsGiven l r = r ≡ seconds_of l

-- ---- where a line ends

-- the last byte of the last column, or the one before the first
unfoldable pub end_of : List Entry → ℕ → ℕ
end_of [] from = from
end_of (e ∷ es) from = end_of es e.last
