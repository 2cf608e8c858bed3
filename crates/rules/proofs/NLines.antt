-- Files with M and N lines, worked out by hand: what a good one says, and where a damaged one is refused. Computed. Assumes nothing.
use Rattle.std.specs.Prelude.{Some}
use Prim.Native.Nat.{ℕ}
use Prim.Native.String.{String}
use mathlib.Core.Bool.{true}
use mathlib.Core.List.{List, [], ◌∷◌, ◌++◌}
use mathlib.Core.Path.{◌≡◌, refl}
use lib.IntN.{ℤ, pos}
use lib.ListN.{replicate}
use Rattle.rules.specs.Choice.{bytes}
use Rattle.rules.specs.Refusals.{Said, says, refuses, and_then}
use Rattle.rules.specs.Layouts.{unused, empty_layout}
use Rattle.rules.specs.Files.{verdict}
use Rattle.rules.specs.Reads.{reading, layout_said}
use Rattle.rules.specs.Looks.{look_number}
use Rattle.rules.specs.Listing.{listing}
use Rattle.rules.specs.declared.Extra.TheVariants as extra
use Rattle.rules.specs.declared.Family.TheVariants as family
use Rattle.rules.specs.declared.Layout.{Layout}
use Rattle.rules.specs.declared.Seal.TheVariants as seal
use Rattle.rules.proofs.Computed.{everything, file_of, agree, Example, hold}
use Rattle.rules.proofs.Damaged.{lines_in}

-- A pilot's heart rate and oxygen in N lines, engine noise in K lines. Lines 5 to 7 have 10, 13 and 13 bytes.
abbrev pub seven_and_g : List ℕ
unfolding file_of
seven_and_g = file_of ("AXYZ001" ∷ "HFDTE150724" ∷ "J010810ENL" ∷ "M020810HRT1113OXY" ∷ "K120000123" ∷ "N120001112098" ∷ "N120021113097" ∷ "GABC" ∷ [])

-- ENL is hex 45 4E 4C, HRT is 48 52 54, OXY is 4F 58 59
abbrev noise : Layout
noise = record { count = 1; entries = record { first = 8; last = 10; code = 0x454E4C } ∷ replicate 12 unused }

abbrev pulse : Layout
pulse = record {
  count = 2;
  entries = record { first = 8; last = 10; code = 0x485254 } ∷ record { first = 11; last = 13; code = 0x4F5859 } ∷ replicate 11 unused;
}

pub verdict_of_n_lines : verdict seal.Strict seven_and_g (Some 16) ≡ says (record {
  date = record { day = 15; month = 7; year = 2024 };
  layouts = record { b = empty_layout; k = noise; n = pulse };
  lines = 8;
  counts = record { b = 0; k = 1; n = 2 };
  signed = true;
})
unfolding everything file_of
verdict_of_n_lines = refl

-- lines, B lines, K lines, B length, K length, N count, N length
pub listing_of_n_lines : listing seven_and_g ≡ bytes "OK 8 0 1 35 10 2 13" ++ 10 ∷ []
unfolding everything file_of
listing_of_n_lines = refl

abbrev lines : List String → Said ℤ → Example
unfolding file_of
lines texts answer = record { given = file_of texts; asked = lines_in 16; answer = answer }

-- the time of an N line, and its column OXY, by the layout of an M line
unfoldable pub time_in : String → List ℕ → Said ℤ
unfolding bytes
time_in m l =
    and_then (layout_said (family.Extra extra.N) (bytes m)) λ layout.
    and_then (reading (family.Extra extra.N) l layout) λ r.
    says (pos r.value)

unfoldable pub oxygen_in : String → List ℕ → Said ℤ
unfolding bytes
oxygen_in m l =
    and_then (layout_said (family.Extra extra.N) (bytes m)) λ layout.
    and_then (reading (family.Extra extra.N) l layout) λ r.
    and_then (look_number l r.entries (bytes "OXY")) λ z.
    says z.value

abbrev read : (String → List ℕ → Said ℤ) → String → String → Said ℤ → Example
unfolding bytes
read asked m n answer = record { given = bytes n; asked = asked m; answer = answer }

pub examples : List Example
unfolding bytes file_of
examples =
    -- 12:00:01 is 43,201
    read time_in "M020810HRT1113OXY" "N120001112098" (says (pos 43201)) ∷
    read oxygen_in "M020810HRT1113OXY" "N120001112098" (says (pos 98)) ∷
    -- 17: a K line is not the N reader's; a J line tells no N layout
    read time_in "M020810HRT1113OXY" "K120001112098" (refuses 17 0 0) ∷
    read time_in "J020810HRT1113OXY" "N120001112098" (refuses 17 0 0) ∷
    -- 7 and 22: one byte short; 24 hours
    read time_in "M020810HRT1113OXY" "N12000111209" (refuses 7 0 0) ∷
    read time_in "M020810HRT1113OXY" "N240000112098" (refuses 22 0 2) ∷
    -- M straight after H, after I, and after J; N lines without an M line, and with M00, have 7 bytes
    lines ("AXYZ001" ∷ "HFDTE150724" ∷ "M010810HRT" ∷ "N120000112" ∷ "GABC" ∷ []) (says (pos 5)) ∷
    lines ("AXYZ001" ∷ "HFDTE150724" ∷ "I00" ∷ "M010810HRT" ∷ "N120000112" ∷ "GABC" ∷ []) (says (pos 6)) ∷
    lines ("AXYZ001" ∷ "HFDTE150724" ∷ "I00" ∷ "J00" ∷ "M00" ∷ "N120000" ∷ "GABC" ∷ []) (says (pos 7)) ∷
    lines ("AXYZ001" ∷ "HFDTE150724" ∷ "N120000" ∷ "GABC" ∷ []) (says (pos 4)) ∷
    -- O is 'other' still
    lines ("AXYZ001" ∷ "HFDTE150724" ∷ "O" ∷ "GABC" ∷ []) (says (pos 4)) ∷
    -- 6: J after M, I after M, a second M, M in the body, N after G
    lines ("AXYZ001" ∷ "HFDTE150724" ∷ "M00" ∷ "J00" ∷ "GABC" ∷ []) (refuses 6 4 1) ∷
    lines ("AXYZ001" ∷ "HFDTE150724" ∷ "M00" ∷ "I00" ∷ "GABC" ∷ []) (refuses 6 4 1) ∷
    lines ("AXYZ001" ∷ "HFDTE150724" ∷ "M00" ∷ "M00" ∷ "GABC" ∷ []) (refuses 6 4 1) ∷
    lines ("AXYZ001" ∷ "HFDTE150724" ∷ "K120000" ∷ "M00" ∷ "GABC" ∷ []) (refuses 6 4 1) ∷
    lines ("AXYZ001" ∷ "HFDTE150724" ∷ "GABC" ∷ "N120000" ∷ []) (refuses 6 4 1) ∷
    -- 7: M of one byte less than its three; N of eight bytes without an M line
    lines ("AXYZ001" ∷ "HFDTE150724" ∷ "M0" ∷ "GABC" ∷ []) (refuses 7 3 0) ∷
    lines ("AXYZ001" ∷ "HFDTE150724" ∷ "N1200001" ∷ "GABC" ∷ []) (refuses 7 3 0) ∷
    -- 8: a comma in an N line, an exclamation mark in an M line
    lines ("AXYZ001" ∷ "HFDTE150724" ∷ "M010808ZZZ" ∷ "N120000," ∷ "GABC" ∷ []) (refuses 8 4 8) ∷
    lines ("AXYZ001" ∷ "HFDTE150724" ∷ "M010810HR!" ∷ "GABC" ∷ []) (refuses 8 3 10) ∷
    -- 9 to 12: the length against NN; an entry from 36, as for B lines; HRT again; ENL of two bytes
    lines ("AXYZ001" ∷ "HFDTE150724" ∷ "M010810HRT1" ∷ "GABC" ∷ []) (refuses 9 3 2) ∷
    lines ("AXYZ001" ∷ "HFDTE150724" ∷ "M013638HRT" ∷ "GABC" ∷ []) (refuses 10 3 4) ∷
    lines ("AXYZ001" ∷ "HFDTE150724" ∷ "M020810HRT1113HRT" ∷ "GABC" ∷ []) (refuses 11 3 11) ∷
    lines ("AXYZ001" ∷ "HFDTE150724" ∷ "M010809ENL" ∷ "GABC" ∷ []) (refuses 12 3 4) ∷
    -- 13: ENL holds digits; it stands from byte 8 on
    lines ("AXYZ001" ∷ "HFDTE150724" ∷ "M010810ENL" ∷ "N12000012A" ∷ "GABC" ∷ []) (refuses 13 4 8) ∷
    -- 14: an N line one second before a K line, and a K line one second before an N line; past midnight both pass
    lines ("AXYZ001" ∷ "HFDTE150724" ∷ "K120000" ∷ "N115959" ∷ "GABC" ∷ []) (refuses 14 4 2) ∷
    lines ("AXYZ001" ∷ "HFDTE150724" ∷ "N120000" ∷ "K115959" ∷ "GABC" ∷ []) (refuses 14 4 2) ∷
    lines ("AXYZ001" ∷ "HFDTE150724" ∷ "K235958" ∷ "N000001" ∷ "GABC" ∷ []) (says (pos 5)) ∷
    lines ("AXYZ001" ∷ "HFDTE150724" ∷ "N235958" ∷ "K000001" ∷ "GABC" ∷ []) (says (pos 5)) ∷
    -- 15: no room for the N line
    record {
      given = file_of ("AXYZ001" ∷ "HFDTE150724" ∷ "N120000" ∷ "GABC" ∷ []);
      asked = lines_in 2;
      answer = refuses 15 3 0;
    } ∷
    -- 22: 60 seconds
    lines ("AXYZ001" ∷ "HFDTE150724" ∷ "N120060" ∷ "GABC" ∷ []) (refuses 22 3 2) ∷
    []

pub n_lines : hold examples ≡ true
unfolding everything file_of agree hold examples lines_in time_in oxygen_in
n_lines = refl
