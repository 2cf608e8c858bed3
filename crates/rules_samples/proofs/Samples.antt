-- A line and its value, both written out by hand, for each kind that has a writer: the line reads as the value, and the text of the value is the line. Each of the two is computed apart, so that
-- a slip made alike in a reader and in a text is caught: no two fields of one form are the same in a line. Computed. Assumes nothing.
use Rattle.std.specs.Prelude.{None, Some}
use Prim.Native.Nat.{ℕ}
use Prim.Native.Char.{code}
use mathlib.Core.List.{List, [], ◌∷◌}
use mathlib.Core.Path.{◌≡◌, refl}
use lib.IntN.{pos, neg_ℤ}
use lib.ListN.{replicate}
use Rattle.rules.specs.Choice.{bytes}
use Rattle.rules.specs.Layouts.{unused, empty_layout}
use Rattle.rules.specs.Reads.{fix_said, extra_said, layout_said, head_said, head_rest, point_said, point_rest}
use Rattle.rules.specs.Refusals.{says}
use Rattle.rules.specs.Writes.{fix_text, extra_text, layout_text, head_text, point_text}
use Rattle.rules.specs.declared.Entry.{Entry}
use Rattle.rules.specs.declared.Extra.TheVariants as extra
use Rattle.rules.specs.declared.Family.TheVariants as family
use Rattle.rules.specs.declared.Fix.{Fix}
use Rattle.rules.specs.declared.Head.{Head}
use Rattle.rules.specs.declared.Layout.{Layout}
use Rattle.rules.specs.declared.Point.{Point}
use Rattle.rules.proofs.Computed.{everything}

-- ---- B lines

-- 21:43:06 is 21 * 3600 + 43 * 60 + 6 seconds; 51 degrees and 27,345 thousandths of a minute are 51 * 60,000 + 27,345; the pressure altitude is below sea level, the GNSS altitude is not
abbrev pub low : List ℕ
unfolding bytes
low = bytes "B2143065127345N00812489EV-012301456"

abbrev pub low_fix : Fix
low_fix = record {
  time = record { count = 78186; decimals = 0 };
  lat = record { count = 3087345; letter = code "N"; decimals = 0 };
  lon = record { count = 492489; letter = code "E"; decimals = 0 };
  validity = code "V";
  pressure = record { metres = neg_ℤ (pos 123) };
  gnss = record { metres = pos 1456 };
}

pub low_read : fix_said low empty_layout ≡ says low_fix
unfolding everything
low_read = refl

pub low_spelled : fix_text low_fix [] ≡ low
unfolding everything
low_spelled = refl

-- the other letters, and the altitudes the other way round; a column of accuracy, and finer digits: 4 tenths of a second, 56 hundredths of a thousandth of latitude, 789 thousandths of one of
-- longitude. The plain counts are 3,723, 34 * 60,000 + 2,001 and 179 * 60,000 + 59,998
abbrev pub fine : List ℕ
unfolding bytes
fine = bytes "B0102033402001S17959998WA00042-0007015456789"

abbrev pub fine_fix : Fix
fine_fix = record {
  time = record { count = 37234; decimals = 1 };
  lat = record { count = 204200156; letter = code "S"; decimals = 2 };
  lon = record { count = 10799998789; letter = code "W"; decimals = 3 };
  validity = code "A";
  pressure = record { metres = pos 42 };
  gnss = record { metres = neg_ℤ (pos 7) };
}

-- ---- I, J and M lines: the places of the first and of the last byte, and the three characters, each a byte

abbrev pub entry : ℕ → ℕ → ℕ → Entry
entry first last code = record { first = first; last = last; code = code }

abbrev pub i_line : List ℕ
unfolding bytes
i_line = bytes "I043638FXA3939TDS4041LAD4244LOD"

abbrev pub i_layout : Layout
i_layout = record { count = 4; entries = entry 36 38 0x465841 ∷ entry 39 39 0x544453 ∷ entry 40 41 0x4C4144 ∷ entry 42 44 0x4C4F44 ∷ replicate 9 unused }

pub i_read : layout_said family.B i_line ≡ says i_layout
unfolding everything
i_read = refl

pub i_spelled : layout_text family.B i_layout ≡ i_line
unfolding everything
i_spelled = refl

pub fine_read : fix_said fine i_layout ≡ says fine_fix
unfolding everything
fine_read = refl

pub fine_spelled : fix_text fine_fix (bytes "015456789") ≡ fine
unfolding everything
fine_spelled = refl

abbrev pub j_line : List ℕ
unfolding bytes
j_line = bytes "J020810HDT1114ZAB"

abbrev pub j_layout : Layout
j_layout = record { count = 2; entries = entry 8 10 0x484454 ∷ entry 11 14 0x5A4142 ∷ replicate 11 unused }

pub j_read : layout_said (family.Extra extra.K) j_line ≡ says j_layout
unfolding everything
j_read = refl

pub j_spelled : layout_text (family.Extra extra.K) j_layout ≡ j_line
unfolding everything
j_spelled = refl

abbrev pub m_line : List ℕ
unfolding bytes
m_line = bytes "M010809CZA"

abbrev pub m_layout : Layout
m_layout = record { count = 1; entries = entry 8 9 0x435A41 ∷ replicate 12 unused }

pub m_read : layout_said (family.Extra extra.N) m_line ≡ says m_layout
unfolding everything
m_read = refl

pub m_spelled : layout_text (family.Extra extra.N) m_layout ≡ m_line
unfolding everything
m_spelled = refl

-- ---- K and N lines

-- 14 * 3600 + 32 * 60 + 7 seconds; a heading of 215 degrees and a column that is not listed
abbrev pub k_line : List ℕ
unfolding bytes
k_line = bytes "K143207215Q-9Z"

pub k_read : extra_said extra.K k_line j_layout ≡ says 52327
unfolding everything
k_read = refl

pub k_spelled : extra_text extra.K 52327 (bytes "215Q-9Z") ≡ k_line
unfolding everything
k_spelled = refl

-- 20 * 3600 + 1 * 60 + 59 seconds
abbrev pub n_line : List ℕ
unfolding bytes
n_line = bytes "N200159X4"

pub n_read : extra_said extra.N n_line m_layout ≡ says 72119
unfolding everything
n_read = refl

pub n_spelled : extra_text extra.N 72119 (bytes "X4") ≡ n_line
unfolding everything
n_spelled = refl

-- ---- C lines

-- declared on the 28th of February 1999 at 06:15:07, 6 * 3600 + 15 * 60 + 7 seconds, for the 1st of March 2000; task 417, with 12 turn points
abbrev pub head_line : List ℕ
unfolding bytes
head_line = bytes "C280299061507010300041712TRIANGLE"

abbrev pub head : Head
head = record { declared = record { day = 28; month = 2; year = 1999 }; time = 22507; flight = Some (record { day = 1; month = 3; year = 2000 }); task = 417; turns = 12 }

pub head_read : (head_said head_line ≡ says head) × (head_rest head_line (says head) ≡ bytes "TRIANGLE")
unfolding everything
head_read = (refl, refl)

pub head_spelled : head_text head (bytes "TRIANGLE") ≡ head_line
unfolding everything
head_spelled = refl

-- "000000 means not given"
abbrev pub dateless : List ℕ
unfolding bytes
dateless = bytes "C311279235960000000000302"

abbrev pub dateless_head : Head
dateless_head = record { declared = record { day = 31; month = 12; year = 2079 }; time = 86400; flight = None; task = 3; turns = 2 }

pub dateless_read : (head_said dateless ≡ says dateless_head) × (head_rest dateless (says dateless_head) ≡ [])
unfolding everything
dateless_read = (refl, refl)

pub dateless_spelled : head_text dateless_head [] ≡ dateless
unfolding everything
dateless_spelled = refl

-- 47 * 60,000 + 12,345 and 8 * 60,000 + 34,567 thousandths; then 3 * 60,000 + 4,005 and 106 * 60,000 + 7,008, with the other letters
abbrev pub turn : List ℕ
unfolding bytes
turn = bytes "C4712345N00834567WLAKE END"

abbrev pub turn_point : Point
turn_point = record { lat = record { count = 2832345; letter = code "N" }; lon = record { count = 514567; letter = code "W" } }

pub turn_read : (point_said turn ≡ says turn_point) × (point_rest turn (says turn_point) ≡ bytes "LAKE END")
unfolding everything
turn_read = (refl, refl)

pub turn_spelled : point_text turn_point (bytes "LAKE END") ≡ turn
unfolding everything
turn_spelled = refl

abbrev pub south : List ℕ
unfolding bytes
south = bytes "C0304005S10607008E"

abbrev pub south_point : Point
south_point = record { lat = record { count = 184005; letter = code "S" }; lon = record { count = 6367008; letter = code "E" } }

pub south_read : (point_said south ≡ says south_point) × (point_rest south (says south_point) ≡ [])
unfolding everything
south_read = (refl, refl)

pub south_spelled : point_text south_point [] ≡ south
unfolding everything
south_spelled = refl
