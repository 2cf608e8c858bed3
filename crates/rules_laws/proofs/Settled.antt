-- Points that document 01 settles, for all values, each with its sentence. Assumes nothing.
use Rattle.std.specs.Prelude.{Err, None, Option, Some}
use Prim.Native.Nat.{ℕ, zero, suc, ◌+◌, ◌-◌, ◌*◌, ◌^◌, ◌≤◌, ◌<◌}
use Prim.Native.Char.{code}
use Prim.Native.String.{String}
use mathlib.Core.Bool.{Bool, true, false, not, ◌&&◌, ◌||◌}
use mathlib.Core.List.{List, [], ◌∷◌, map}
use mathlib.Core.Path.{◌≡◌, refl, sym, ap, ◌∙◌}
use native.Mathlib.Nat.{one-le-pow}
use native.Mathlib.Omega.{arith}
use borrow.Author.Tests.{le-leb, lt-leb, lt-ltb, le-ltb, eqb-true, eqb-false}
use lib.Dec.{eqb}
use lib.Ieee.{fin, binary64, round, neg}
use lib.Ieee.Scale.{round_same}
use lib.IntN.{ℤ, pos, negsuc, neg_ℤ}
use lib.ListN.{length, get_or}
use Rattle.rules.specs.Choice.{given, first_of, bytes}
use Rattle.rules.specs.Refusals.{says, refuses, number, value_or, result_told}
use Rattle.rules.specs.Fields.{is_either, year_of}
use Rattle.rules.specs.Degrees.{quotient, is_negated, angle, is_fine_position, degrees_of}
use Rattle.rules.specs.Listed.{listed, unlisted, listed_number, packed_of}
use Rattle.rules.specs.Layouts.{empty_layout, allowed}
use Rattle.rules.specs.Order.{onward, next_day, back, passing}
use Rattle.rules.specs.Files.{verdict, good_lines, table_after}
use Rattle.rules.specs.Reads.{layout_said}
use Rattle.rules.specs.Writes.{is_fix, written, out_after}
use Rattle.rules.specs.Promises.{Written}
use Rattle.rules.specs.declared.Refusal.{Refusal}
use Rattle.rules.specs.declared.FinePosition.{FinePosition}
use Rattle.rules.specs.declared.Listed.{Listed}
use Rattle.rules.specs.declared.Layout.{Layout}
use Rattle.rules.specs.declared.Family.TheVariants as family
use Rattle.rules.specs.declared.Fix.{Fix}
use Rattle.rules.proofs.Inverse.{and_inv}
use Rattle.rules.proofs.Computed.{everything}
use Rattle.rules.proofs.Damaged.{five_layout}
use Rattle.rules.specs.declared.Seal.{Seal}

-- ---- times and years

-- "Equal times are fine."; "A fall of more than 43,200 seconds from the one before counts as the next day; a smaller fall, or one of exactly 43,200, is refused (h)."
pub same_or_later : (before now : ℕ) → before ≤ now → passing before now ≡ onward
unfolding passing
same_or_later before now h = rw (le-leb before now h)

pub great_fall : (before now : ℕ) → now + 43200 < before → passing before now ≡ next_day
unfolding passing
great_fall before now h = rw (lt-leb before now (omega arith), lt-ltb 43200 (before - now) (omega arith))

pub small_fall : (before now : ℕ) → now < before → before ≤ now + 43200 → passing before now ≡ back
unfolding passing
small_fall before now h g = rw (lt-leb before now h, le-ltb 43200 (before - now) (omega arith))

-- "Years 80 to 99 are 1980 to 1999, 00 to 79 are 2000 to 2079 (h)."
pub late_year : (yy : ℕ) → 80 ≤ yy → year_of yy ≡ 1900 + yy
unfolding year_of
late_year yy h = rw (le-leb 80 yy h)

pub early_year : (yy : ℕ) → yy < 80 → year_of yy ≡ 2000 + yy
unfolding year_of
early_year yy h = rw (lt-leb 80 yy h)

-- ---- a file's size

-- "1 EMPTY: no bytes"
pub empty_file : (seal : Seal) (room : Option ℕ) → verdict seal [] room ≡ refuses 1 0 0
unfolding verdict number
empty_file seal room = refl

-- "A file has 1 to 16,777,216 bytes (h)."; "2 TOO_LONG: over the limit"
pub long_file : (seal : Seal) (file : List ℕ) (room : Option ℕ) → 16777216 < length file → verdict seal file room ≡ refuses 2 0 0
unfolding verdict number
long_file seal file room h = rw (le-leb 1 (length file) (omega arith), lt-leb (length file) 16777216 h)

-- "The table gets entries for the lines before the faulty one ..., the rest unchanged.": at 1 and 2 there is no line, and the table stays
pub empty_leaves : (seal : Seal) (table : List ℕ) → table_after seal [] table ≡ table
unfolding table_after verdict good_lines
empty_leaves seal table = refl

pub long_leaves : (seal : Seal) (file table : List ℕ) → 16777216 < length file → table_after seal file table ≡ table
unfolding table_after good_lines
long_leaves seal file table h = rw (long_file seal file (Some (length table)) h)

-- ---- degrees

-- "plain zero for count 0 under either letter", with any number of decimals
pub zero_plain : (letter decimals : ℕ) → angle (record { count = 0; letter = letter; decimals = decimals }) ≡ fin false 0 (pos 0)
unfolding angle is_negated quotient round
zero_plain letter decimals =
    let p : 0 < 10 ^ decimals = one-le-pow decimals 10 (omega arith) in
    round_same binary64 false 0 (60000 * 10 ^ decimals) 0 1 (omega arith) (omega arith) (omega arith)

abbrev north : FinePosition
north = record { count = 3090000; letter = code "N"; decimals = 0 }

abbrev west : FinePosition
west = record { count = 15000; letter = code "W"; decimals = 0 }

-- "the count over 60,000, one rounded division, negated for S and W": 51.5, which is 103 times 2^-1, and -0.25
pub degrees_of_five : degrees_of north west ≡ says (record { lat = fin false 103 (negsuc 0); lon = fin true 1 (negsuc 1) })
unfolding degrees_of is_fine_position is_either angle is_negated quotient round neg
degrees_of_five = refl

-- "The map's degrees use the finer count over 60,000 times that power of ten, still one division.": with four decimals, 51.5 again, and 15,117.1875 thousandths of a minute,
-- which are 129 times 2^-9
pub degrees_finer : degrees_of (record { count = 30900000000; letter = code "N"; decimals = 4 }) (record { count = 151171875; letter = code "W"; decimals = 4 })
    ≡ says (record { lat = fin false 103 (negsuc 0); lon = fin true 129 (negsuc 8) })
unfolding degrees_of is_fine_position is_either angle is_negated quotient round neg
degrees_finer = refl

-- ---- listed codes

abbrev names : List String
names =
    "FXA" ∷ "SIU" ∷ "ENL" ∷ "MOP" ∷ "IAS" ∷ "FLP" ∷ "HDM" ∷ "HDT" ∷ "TRM" ∷ "TRT" ∷ "TDS" ∷ "LAD" ∷ "LOD" ∷ "DAE" ∷ "DAN" ∷ []

-- "Listed codes, numbered 0 to 14 in this order"
pub named_in_order : map (λ (r : Listed). r.code) listed ≡ map (λ (n : String). packed_of (bytes n)) names
unfolding listed bytes
named_in_order = refl

-- a test passes for each number below k
abbrev below : (ℕ → Bool) → ℕ → Bool
below test zero = true
below test (suc k) = test k && below test k

below_at : (test : ℕ → Bool) (k n : ℕ) (x : Bool) → eqb n k ≡ x → (n < k → test n ≡ true) → test k ≡ true → n < suc k → test n ≡ true
below_at test k n true e h t p = rw (eqb-true n k e) t
below_at test k n false e h t p = h (omega (arith, eqb-false n k e))

below_all : (test : ℕ → Bool) (k n : ℕ) → below test k ≡ true → n < k → test n ≡ true
below_all test zero n e p = absurd (omega arith)
below_all test (suc k) n e p = let t = and_inv (test k) (below test k) e in below_at test k n (eqb n k) refl (below_all test k n t.1) t.0 p

-- the row n has the number n
abbrev is_at : ℕ → Bool
is_at n = given (listed_number (get_or listed n unlisted).code) false (eqb n)

given_eqb : (o : Option ℕ) (n : ℕ) → given o false (eqb n) ≡ true → o ≡ Some n
given_eqb (Some m) n e = ap Some (sym (eqb-true n m e))
given_eqb None n e = let z : ◌≡◌ {A = ℕ} 0 1 = cc in absurd (omega arith)

all_numbered : below is_at 15 ≡ true
unfolding listed_number first_of listed bytes
all_numbered = refl

pub numbered : (n : ℕ) → n < 15 → listed_number (get_or listed n unlisted).code ≡ Some n
numbered n h = given_eqb (listed_number (get_or listed n unlisted).code) n (below_all is_at 15 n all_numbered h)

-- no code is listed twice
pub listed_once : (m n : ℕ) → m < 15 → n < 15 → (get_or listed m unlisted).code ≡ (get_or listed n unlisted).code → m ≡ n
listed_once m n h g e =
    let a : Some m ≡ Some n = sym (numbered m h) ∙ ap listed_number e ∙ numbered n g in
    cc

-- ---- layouts

-- "with NN 00, or no such line": I00 tells the layout that a file without an I line has
pub no_columns_lem : layout_said family.B (bytes "I00") ≡ says empty_layout
unfolding everything
no_columns_lem = refl

-- the empty layout is allowed for B, K and N lines, and the layout of document 01's file for B lines alone
pub allowed_for : allowed 36 empty_layout && allowed 8 empty_layout && allowed 36 five_layout && not (allowed 8 five_layout) ≡ true
unfolding everything
allowed_for = refl

-- ---- writers

-- a fix that is well but for what is given
abbrev fix_with : ℕ → ℕ → ℤ → Fix
fix_with count letter metres = record {
  time = record { count = 43200; decimals = 0 };
  lat = record { count = count; letter = letter; decimals = 0 };
  lon = west;
  validity = code "A";
  pressure = record { metres = metres };
  gnss = record { metres = pos 120 };
}

abbrev writes : ℕ → ℕ → ℤ → Bool
writes count letter metres = is_fix (fix_with count letter metres) [] empty_layout

-- "A writer gives 17 exactly when no line that passes 7 to 13 reads as the values given.": 0 S is written; 90 degrees and a thousandth of a minute, a letter
-- of the other coordinate and altitudes of more than five characters are not
pub writable : writes 0 (code "S") (pos 0) && writes 5400000 (code "N") (neg_ℤ (pos 9999)) ≡ true
unfolding everything
writable = refl

pub unwritable : writes 5400001 (code "N") (pos 0) || writes 0 (code "E") (pos 0) || writes 0 (code "N") (pos 100000) || writes 0 (code "N") (neg_ℤ (pos 10000)) ≡ false
unfolding everything
unwritable = refl

-- one digit of TDS and four of LAD
abbrev fine_layout : Layout
fine_layout = value_or empty_layout (layout_said family.B (bytes "I023636TDS3740LAD"))

-- a fix of a time and a latitude, each with its decimals, and the text of its columns
abbrev fine_fix : ℕ → ℕ → ℕ → ℕ → Fix
fine_fix time decimals lat more = record {
  time = record { count = time; decimals = decimals };
  lat = record { count = lat; letter = code "N"; decimals = more };
  lon = west;
  validity = code "A";
  pressure = record { metres = pos 100 };
  gnss = record { metres = pos 120 };
}

abbrev splits : ℕ → ℕ → ℕ → ℕ → String → Bool
splits time decimals lat more tail = is_fix (fine_fix time decimals lat more) (bytes tail) fine_layout

-- "The B writer splits the count again and refuses one whose decimals don't match the layout's width or whose digits aren't the column's.": 12:00:00.5 at 51.5 degrees and .1234 is
-- written, the last tenth of a leap second, and 90 degrees with zeros
pub split_written : splits 432005 1 30900001234 4 "51234" && splits 864009 1 54000000000 4 "90000" ≡ true
unfolding everything
split_written = refl

-- a decimal too few, one too many, another digit, and digits past 90 degrees are not
pub split_refused : splits 43200 0 30900001234 4 "01234" || splits 432005 1 309000012340 5 "51234" || splits 432006 1 30900001234 4 "51234" || splits 432005 1 54000000001 4 "50001" ≡ false
unfolding everything
split_refused = refl

-- "Writers test 17 before 18"
pub bad_first : (text : List ℕ) (place : ℕ) (out : List ℕ) → written false text place out ≡ refuses 17 0 0
unfolding written number
bad_first text place out = refl

-- "(a place past the end is 18)"
pub past_end : (text : List ℕ) (place : ℕ) (out : List ℕ) → length out < place → written true text place out ≡ refuses 18 0 0
unfolding written number
past_end text place out h = rw (lt-leb (place + length text + 2) (length out) (omega arith))

-- "18 NO_ROOM: output shorter than place + length + 2"
pub room_enough : (text : List ℕ) (place : ℕ) (out : List ℕ) → place + length text + 2 ≤ length out → written true text place out ≡ says (place + length text + 2)
unfolding written
room_enough text place out h = rw (le-leb (place + length text + 2) (length out) h)

-- "a refused write changes no byte"
pub unchanged : (good : Bool) (text : List ℕ) (place : ℕ) (out : List ℕ) (w : Refusal) (after : List ℕ) → Written good text place out (Err w) after → after ≡ out
unfolding result_told out_after
unchanged good text place out w after p = rw (← p.told) at p.bytes
