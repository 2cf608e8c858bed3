-- Files with a G line and without one, by the usual check and by the strict one: what each says of them, and whether they are signed, worked out by hand from document 02.
-- Computed. Assumes nothing.
use Rattle.std.specs.Prelude.{Some}
use Prim.Native.Nat.{ℕ}
use Prim.Native.String.{String}
use mathlib.Core.Bool.{true, false, cond}
use mathlib.Core.List.{List, [], ◌∷◌, ◌++◌}
use mathlib.Core.Path.{◌≡◌, refl}
use lib.IntN.{ℤ, pos}
use lib.ListN.{replicate}
use Rattle.rules.specs.Choice.{bytes}
use Rattle.rules.specs.Refusals.{Said, says, refuses, and_then}
use Rattle.rules.specs.Layouts.{empty_layout}
use Rattle.rules.specs.Files.{verdict, table_after}
use Rattle.rules.specs.Listing.{listing}
use Rattle.rules.specs.declared.Seal.{Seal}
use Rattle.rules.specs.declared.Seal.TheVariants as seal
use Rattle.rules.proofs.Computed.{everything, file_of, agree, Example, hold}
use Rattle.rules.proofs.Damaged.{five_layout}

-- document 01's file of five lines without its G line
abbrev pub four_lines : List ℕ
unfolding file_of
four_lines = file_of ("AXYZ001" ∷ "HFDTE150724" ∷ "I023638FXA3940SIU" ∷ "B1200005130000N00015000WA001000012001208" ∷ [])

-- its first two lines
abbrev pub two_lines : List ℕ
unfolding file_of
two_lines = file_of ("AXYZ001" ∷ "HFDTE150724" ∷ [])

-- the usual check says of it what it says of the five lines, but for the count of lines, and that it is not signed
pub verdict_of_four : verdict seal.Usual four_lines (Some 16) ≡ says (record {
  date = record { day = 15; month = 7; year = 2024 };
  layouts = record { b = five_layout; k = empty_layout; n = empty_layout };
  lines = 4;
  counts = record { b = 1; k = 0; n = 0 };
  signed = false;
})
unfolding everything file_of
verdict_of_four = refl

-- "A and H alone"
pub verdict_of_two : verdict seal.Usual two_lines (Some 16) ≡ says (record {
  date = record { day = 15; month = 7; year = 2024 };
  layouts = record { b = empty_layout; k = empty_layout; n = empty_layout };
  lines = 2;
  counts = record { b = 0; k = 0; n = 0 };
  signed = false;
})
unfolding everything file_of
verdict_of_two = refl

-- both checks leave the same entries: "16 or accepted: all lines"
pub table_of_four : (s : Seal) → table_after s four_lines (replicate 6 99) ≡ 0 ∷ 9 ∷ 22 ∷ 41 ∷ 99 ∷ 99 ∷ []
unfolding everything file_of
table_of_four seal.Usual = refl
table_of_four seal.Strict = refl

-- the listing asks for the usual check
pub listing_of_four : listing four_lines ≡ bytes "OK 4 1 0 40 7 0 7" ++ 10 ∷ bytes "FIX 4 43200 3090000 N 15000 W A 100 120" ++ 10 ∷ bytes "COL FXA 012" ++ 10 ∷ bytes "COL SIU 08" ++ 10 ∷ []
unfolding everything file_of
listing_of_four = refl

-- whether the file is signed, 1 or 0
unfoldable pub signed_said : Seal → List ℕ → Said ℤ
signed_said s file = and_then (verdict s file (Some 16)) λ f. says (pos (cond f.signed 1 0))

abbrev asks : Seal → List String → Said ℤ → Example
unfolding file_of
asks s texts answer = record { given = file_of texts; asked = signed_said s; answer = answer }

pub examples : List Example
unfolding bytes file_of
examples =
    -- a G line
    asks seal.Usual ("AXYZ001" ∷ "HFDTE150724" ∷ "GABC" ∷ []) (says (pos 1)) ∷
    asks seal.Strict ("AXYZ001" ∷ "HFDTE150724" ∷ "GABC" ∷ []) (says (pos 1)) ∷
    -- a note behind it
    asks seal.Usual ("AXYZ001" ∷ "HFDTE150724" ∷ "GABC" ∷ "LXYZ" ∷ []) (says (pos 1)) ∷
    asks seal.Strict ("AXYZ001" ∷ "HFDTE150724" ∷ "GABC" ∷ "LXYZ" ∷ []) (says (pos 1)) ∷
    -- no G line
    asks seal.Usual ("AXYZ001" ∷ "HFDTE150724" ∷ []) (says (pos 0)) ∷
    asks seal.Strict ("AXYZ001" ∷ "HFDTE150724" ∷ []) (refuses 16 3 0) ∷
    -- an L line is no signature
    asks seal.Usual ("AXYZ001" ∷ "HFDTE150724" ∷ "LXYZ" ∷ []) (says (pos 0)) ∷
    asks seal.Strict ("AXYZ001" ∷ "HFDTE150724" ∷ "LXYZ" ∷ []) (refuses 16 4 0) ∷
    -- a layout line last, and no body
    asks seal.Usual ("AXYZ001" ∷ "HFDTE150724" ∷ "I00" ∷ []) (says (pos 0)) ∷
    -- 16: the file ends before its second line
    asks seal.Usual ("AXYZ001" ∷ []) (refuses 16 2 0) ∷
    asks seal.Strict ("AXYZ001" ∷ []) (refuses 16 2 0) ∷
    -- 16: one of four points has come
    asks seal.Usual ("AXYZ001" ∷ "HFDTE150724" ∷ "C150724120000150724000100" ∷ "C5130000N00015000W" ∷ []) (refuses 16 5 0) ∷
    -- "ORDER is otherwise as before": a B line behind a G line
    asks seal.Usual ("AXYZ001" ∷ "HFDTE150724" ∷ "GABC" ∷ "B1200005130000N00015000WA0010000120" ∷ []) (refuses 6 4 1) ∷
    []

pub signed_or_not : hold examples ≡ true
unfolding everything file_of agree hold examples signed_said
signed_or_not = refl
