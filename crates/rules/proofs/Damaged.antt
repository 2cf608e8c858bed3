-- Document 01's file of five lines: its verdict, table, fix, columns and listing; and a damaged variant of it for each refusal number 3 to 16, with the line and
-- byte worked out by hand; files with M and N lines, good and damaged. Computed. Assumes nothing.
use Rattle.std.specs.Prelude.{Some}
use Prim.Native.Nat.{ℕ}
use Prim.Native.String.{String}
use mathlib.Core.Bool.{true}
use mathlib.Core.List.{List, [], ◌∷◌, ◌++◌}
use mathlib.Core.Path.{◌≡◌, refl}
use lib.IntN.{ℤ, pos, neg_ℤ}
use lib.ListN.{replicate}
use Rattle.rules.specs.Choice.{bytes}
use Rattle.rules.specs.Refusals.{Said, says, refuses, and_then}
use Rattle.rules.specs.Layouts.{unused, empty_layout}
use Rattle.rules.specs.Files.{verdict, table_after}
use Rattle.rules.specs.Reads.{reading, layout_said}
use Rattle.rules.specs.Looks.{look_number}
use Rattle.rules.specs.Listing.{listing}
use Rattle.rules.specs.declared.Family.TheVariants as family
use Rattle.rules.specs.declared.Layout.{Layout}
use Rattle.rules.proofs.Computed.{everything, file_of, agree, Example, hold}
use Rattle.rules.specs.declared.Seal.TheVariants as seal

abbrev pub five_lines : List ℕ
unfolding file_of
five_lines = file_of ("AXYZ001" ∷ "HFDTE150724" ∷ "I023638FXA3940SIU" ∷ "B1200005130000N00015000WA001000012001208" ∷ "GABC" ∷ [])

-- FXA is hex 46 58 41, SIU is 53 49 55
abbrev pub five_layout : Layout
five_layout = record {
  count = 2;
  entries = record { first = 36; last = 38; code = 0x465841 } ∷ record { first = 39; last = 40; code = 0x534955 } ∷ replicate 11 unused;
}

pub verdict_of_five : verdict seal.Strict five_lines (Some 16) ≡ says (record {
  date = record { day = 15; month = 7; year = 2024 };
  layouts = record { b = five_layout; k = empty_layout; n = empty_layout };
  lines = 5;
  counts = record { b = 1; k = 0; n = 0 };
  signed = true;
})
unfolding everything file_of
verdict_of_five = refl

-- the lines have 7, 11, 17, 40 and 4 bytes, and 2 more each; the other entries stay
pub table_of_five : table_after seal.Strict five_lines (replicate 7 99) ≡ 0 ∷ 9 ∷ 22 ∷ 41 ∷ 83 ∷ 99 ∷ 99 ∷ []
unfolding everything file_of
table_of_five = refl

-- "Output, whole"
pub listing_of_five : listing five_lines ≡ bytes "OK 5 1 0 40 7 0 7" ++ 10 ∷ bytes "FIX 4 43200 3090000 N 15000 W A 100 120" ++ 10 ∷ bytes "COL FXA 012" ++ 10 ∷ bytes "COL SIU 08" ++ 10 ∷ []
unfolding everything file_of
listing_of_five = refl

-- how many lines the file has, with room for so many
unfoldable pub lines_in : ℕ → List ℕ → Said ℤ
lines_in room file = and_then (verdict seal.Strict file (Some room)) λ f. says (pos f.lines)

-- a column of a B line as a number, by the layout of an I line
unfoldable pub column_in : String → String → List ℕ → Said ℤ
unfolding bytes
column_in i name l =
    and_then (layout_said family.B (bytes i)) λ layout.
    and_then (reading family.B l layout) λ r.
    and_then (look_number l r.entries (bytes name)) λ z.
    says z.value

abbrev lines : List String → Said ℤ → Example
unfolding file_of
lines texts answer = record { given = file_of texts; asked = lines_in 16; answer = answer }

abbrev column : String → String → String → Said ℤ → Example
unfolding bytes
column i b name answer = record { given = bytes b; asked = column_in i name; answer = answer }

pub examples : List Example
unfolding bytes file_of
examples =
    column "I023638FXA3940SIU" "B1200005130000N00015000WA001000012001208" "FXA" (says (pos 12)) ∷
    column "I023638FXA3940SIU" "B1200005130000N00015000WA001000012001208" "SIU" (says (pos 8)) ∷
    column "I023638FXA3940SIU" "B1200005130000N00015000WA001000012001208" "ENL" (refuses 19 0 0) ∷
    -- ENL stands where the I line says
    column "I023638FXA3941ENL" "B1200005130000N00015000WA0010000120012345" "ENL" (says (pos 345)) ∷
    column "I033638ENL3941FXA4244MOP" "B1200005130000N00015000WA0010000120678012345" "ENL" (says (pos 678)) ∷
    -- a minus before digits, and a text that is no number
    column "I013638FLP" "B1200005130000N00015000WA0010000120-05" "FLP" (says (neg_ℤ (pos 5))) ∷
    column "I013638ZZZ" "B1200005130000N00015000WA00100001201-5" "ZZZ" (refuses 20 0 0) ∷
    lines ("AXYZ001" ∷ "HFDTE150724" ∷ "I023638FXA3940SIU" ∷ "B1200005130000N00015000WA001000012001208" ∷ "GABC" ∷ []) (says (pos 5)) ∷
    -- 3: no CR LF behind the four bytes of line 5
    record {
      given = file_of ("AXYZ001" ∷ "HFDTE150724" ∷ "I023638FXA3940SIU" ∷ "B1200005130000N00015000WA001000012001208" ∷ []) ++ bytes "GABC";
      asked = lines_in 16;
      answer = refuses 3 5 5;
    } ∷
    -- 3: a LF without its CR behind the four bytes of line 5
    record {
      given = file_of ("AXYZ001" ∷ "HFDTE150724" ∷ "I023638FXA3940SIU" ∷ "B1200005130000N00015000WA001000012001208" ∷ []) ++ bytes "GABC" ++ 10 ∷ 13 ∷ 10 ∷ [];
      asked = lines_in 16;
      answer = refuses 3 5 5;
    } ∷
    -- 4: line 5 is empty
    lines ("AXYZ001" ∷ "HFDTE150724" ∷ "I023638FXA3940SIU" ∷ "B1200005130000N00015000WA001000012001208" ∷ "" ∷ "GABC" ∷ []) (refuses 4 5 1) ∷
    -- 5: b is no kind
    lines ("AXYZ001" ∷ "HFDTE150724" ∷ "I023638FXA3940SIU" ∷ "b1200005130000N00015000WA001000012001208" ∷ "GABC" ∷ []) (refuses 5 4 1) ∷
    -- 6: an H line after the I line
    lines ("AXYZ001" ∷ "HFDTE150724" ∷ "I023638FXA3940SIU" ∷ "HFPLT" ∷ "B1200005130000N00015000WA001000012001208" ∷ "GABC" ∷ []) (refuses 6 4 1) ∷
    -- 6: a B line after the G line
    lines ("AXYZ001" ∷ "HFDTE150724" ∷ "I023638FXA3940SIU" ∷ "GABC" ∷ "B1200005130000N00015000WA001000012001208" ∷ []) (refuses 6 5 1) ∷
    -- 7: 39 bytes where the layout gives 40
    lines ("AXYZ001" ∷ "HFDTE150724" ∷ "I023638FXA3940SIU" ∷ "B1200005130000N00015000WA00100001200120" ∷ "GABC" ∷ []) (refuses 7 4 0) ∷
    -- 8: ! at byte 3 of line 5
    lines ("AXYZ001" ∷ "HFDTE150724" ∷ "I023638FXA3940SIU" ∷ "B1200005130000N00015000WA001000012001208" ∷ "GA!C" ∷ []) (refuses 8 5 3) ∷
    -- 8: a comma outside the H lines
    lines ("AXYZ001" ∷ "HFDTE150724" ∷ "HFPLTA,B" ∷ "I00" ∷ "LXYZ,A" ∷ "GABC" ∷ []) (refuses 8 5 5) ∷
    -- 9: X is neither A nor V, at byte 25
    lines ("AXYZ001" ∷ "HFDTE150724" ∷ "I023638FXA3940SIU" ∷ "B1200005130000N00015000WX001000012001208" ∷ "GABC" ∷ []) (refuses 9 4 25) ∷
    -- 22: 60 seconds in another minute than the day's last, in the time from byte 2
    lines ("AXYZ001" ∷ "HFDTE150724" ∷ "I023638FXA3940SIU" ∷ "B1200605130000N00015000WA001000012001208" ∷ "GABC" ∷ []) (refuses 22 4 2) ∷
    -- 23: 60 minutes of latitude, from byte 8; and of longitude, from byte 16
    lines ("AXYZ001" ∷ "HFDTE150724" ∷ "I023638FXA3940SIU" ∷ "B1200005160000N00015000WA001000012001208" ∷ "GABC" ∷ []) (refuses 23 4 8) ∷
    lines ("AXYZ001" ∷ "HFDTE150724" ∷ "I023638FXA3940SIU" ∷ "B1200005130000N00060000WA001000012001208" ∷ "GABC" ∷ []) (refuses 23 4 16) ∷
    -- 24: a minus before four zeros, in the GNSS altitude from byte 31
    lines ("AXYZ001" ∷ "HFDTE150724" ∷ "I023638FXA3940SIU" ∷ "B1200005130000N00015000WA00100-000001208" ∷ "GABC" ∷ []) (refuses 24 4 31) ∷
    -- 25: no 31st of June, in the date from byte 6 of line 2
    lines ("AXYZ001" ∷ "HFDTE310624" ∷ "I023638FXA3940SIU" ∷ "B1200005130000N00015000WA001000012001208" ∷ "GABC" ∷ []) (refuses 25 2 6) ∷
    -- 9: an odd half pair, before the pair at byte 8 that is no code
    lines ("AXYZ001" ∷ "HFDTE150724" ∷ "F120000a12" ∷ "GABC" ∷ []) (refuses 9 3 8) ∷
    -- 9: the second pair, from byte 10
    lines ("AXYZ001" ∷ "HFDTE150724" ∷ "F120000011a" ∷ "GABC" ∷ []) (refuses 9 3 10) ∷
    -- 10: the second entry, from byte 11, starts at 40 and not at 39
    lines ("AXYZ001" ∷ "HFDTE150724" ∷ "I023638FXA4041SIU" ∷ "GABC" ∷ []) (refuses 10 3 11) ∷
    -- 11: FXA again
    lines ("AXYZ001" ∷ "HFDTE150724" ∷ "I023638FXA3941FXA" ∷ "GABC" ∷ []) (refuses 11 3 11) ∷
    -- 12: SIU has two bytes
    lines ("AXYZ001" ∷ "HFDTE150724" ∷ "I023638FXA3941SIU" ∷ "GABC" ∷ []) (refuses 12 3 11) ∷
    -- 13: FXA at 36, SIU at 39
    lines ("AXYZ001" ∷ "HFDTE150724" ∷ "I023638FXA3940SIU" ∷ "B1200005130000N00015000WA00100001200A208" ∷ "GABC" ∷ []) (refuses 13 4 36) ∷
    lines ("AXYZ001" ∷ "HFDTE150724" ∷ "I023638FXA3940SIU" ∷ "B1200005130000N00015000WA00100001200120-" ∷ "GABC" ∷ []) (refuses 13 4 39) ∷
    -- 14: one second back
    lines ("AXYZ001" ∷ "HFDTE150724" ∷ "I023638FXA3940SIU" ∷ "B1200005130000N00015000WA001000012001208" ∷ "B1159595130000N00015000WA001000012001208" ∷ "GABC" ∷ []) (refuses 14 5 2) ∷
    -- 15: room for four
    record {
      given = file_of ("AXYZ001" ∷ "HFDTE150724" ∷ "I023638FXA3940SIU" ∷ "B1200005130000N00015000WA001000012001208" ∷ "GABC" ∷ []);
      asked = lines_in 4;
      answer = refuses 15 5 0;
    } ∷
    -- 16: no G line, after four lines
    lines ("AXYZ001" ∷ "HFDTE150724" ∷ "I023638FXA3940SIU" ∷ "B1200005130000N00015000WA001000012001208" ∷ []) (refuses 16 5 0) ∷
    -- 16: two of four points, after five lines
    lines ("AXYZ001" ∷ "HFDTE150724" ∷ "C150724120000150724000100" ∷ "C5130000N00015000W" ∷ "C5130000N00015000W" ∷ []) (refuses 16 6 0) ∷
    -- no bytes
    lines [] (refuses 1 0 0) ∷
    []

pub damaged : hold examples ≡ true
unfolding everything file_of agree hold examples lines_in column_in
damaged = refl
