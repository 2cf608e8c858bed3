-- Document 01's file of five lines with notes before and after its G line, the four lines before its G line with notes, and a flight over three midnights with and without them, worked
-- out by hand: what they say, which is the same; and what differs. Notes that begin as a timed line does move no clock. Computed. Assumes nothing.
use Rattle.std.specs.Prelude.{None}
use Prim.Native.Nat.{ℕ}
use mathlib.Core.Bool.{Bool, true, false}
use mathlib.Core.List.{List, [], ◌∷◌, ◌++◌, map}
use Prim.Native.String.{String}
use mathlib.Core.Path.{◌≡◌, refl}
use lib.IntN.{ℤ, pos, neg_ℤ}
use lib.ListN.{replicate}
use Rattle.rules.specs.Choice.{bytes}
use Rattle.rules.specs.Files.{verdict, table_after}
use Rattle.rules.specs.Layouts.{empty_layout}
use Rattle.rules.specs.Listing.{listing}
use Rattle.rules.specs.Refusals.{refuses}
use Rattle.rules.specs.Split.{bounds_of, line_text}
use Rattle.rules.specs.declared.Flight.{Flight}
use Rattle.rules.specs.declared.Seal.{Seal}
use Rattle.rules.specs.declared.Seal.TheVariants as seal
use Rattle.rules.proofs.Computed.{everything, file_of}
use Rattle.rules.proofs.Damaged.{five_lines, five_layout}
use Rattle.rules.proofs.SignedFiles.{four_lines}
use Rattle.grammar_alike.specs.Alike.{without_l}
use Rattle.claims_track.proofs.Worked.{nights, tracked}
use Rattle.track_rules.specs.Track.{track_from, track_of}
use Rattle.summary_fix.specs.Spots.{signed_count}
use Rattle.summary_reckon.specs.Summary.{told, told_runs, updated, flight_summed, summary_after}
use Rattle.claims_notes.specs.Notes.{ButForNotes, unnumbered}

-- ---- document 01's file

-- with two notes before the G line and two behind it. The first begins as a line of 23:59:59 does: with that as its time the B line, at 12:00:00, would be refused with 14
abbrev pub noted_five : List ℕ
noted_five =
    file_of
    ("AXYZ001" ∷ "HFDTE150724" ∷ "I023638FXA3940SIU" ∷ "L235959 TOW" ∷ "B1200005130000N00015000WA001000012001208" ∷ "LPLT A NOTE" ∷ "GABC" ∷ "LXYZ IN THE EVENING" ∷ "L" ∷ [])

-- what is said of these files: but for the count of lines, and whether there is a G line, the same
abbrev pub saying : ℕ → Bool → Flight
saying lines signed = record {
  date = record { day = 15; month = 7; year = 2024 };
  layouts = record { b = five_layout; k = empty_layout; n = empty_layout };
  lines = lines;
  counts = record { b = 1; k = 0; n = 0 };
  signed = signed;
}

pub five_pair : (needs : Seal) → ButForNotes needs five_lines (saying 5 true) noted_five (saying 9 true)
unfolding everything file_of without_l
five_pair seal.Usual = record { room = None; room' = None; accepted = refl; accepted_too = refl; same = refl }
five_pair seal.Strict = record { room = None; room' = None; accepted = refl; accepted_too = refl; same = refl }

-- ---- without a G line

-- the four lines before it
abbrev pub noted_four : List ℕ
noted_four = file_of ("AXYZ001" ∷ "HFDTE150724" ∷ "I023638FXA3940SIU" ∷ "L235959 TOW" ∷ "B1200005130000N00015000WA001000012001208" ∷ "LXYZ IN THE EVENING" ∷ [])

pub four_pair : ButForNotes seal.Usual four_lines (saying 4 false) noted_four (saying 6 false)
unfolding everything file_of without_l
four_pair = record { room = None; room' = None; accepted = refl; accepted_too = refl; same = refl }

-- ---- what may differ, and does

-- "the table": the lines have 7, 11, 17, 11, 40, 11, 4, 19 and 1 bytes, and 2 more each; document 01's file has 0, 9, 22, 41 and 83
pub table_differs : (table_after seal.Strict five_lines (replicate 10 99) ≡ 0 ∷ 9 ∷ 22 ∷ 41 ∷ 83 ∷ 99 ∷ 99 ∷ 99 ∷ 99 ∷ 99 ∷ [])
    × (table_after seal.Strict noted_five (replicate 10 99) ≡ 0 ∷ 9 ∷ 22 ∷ 41 ∷ 54 ∷ 96 ∷ 109 ∷ 115 ∷ 136 ∷ 99 ∷ [])
unfolding everything file_of
table_differs = (refl, refl)

-- "lines got by number": line 4 is the B line of the one and a note of the other
pub line_differs : (line_text five_lines (bounds_of five_lines (table_after seal.Strict five_lines (replicate 10 99)) 4) ≡ bytes "B1200005130000N00015000WA001000012001208")
    × (line_text noted_five (bounds_of noted_five (table_after seal.Strict noted_five (replicate 10 99)) 4) ≡ bytes "L235959 TOW")
unfolding everything file_of
line_differs = (refl, refl)

-- the listing of a file with one fix of those columns: how many lines, and which is the fix's
abbrev pub listed_by : String → String → List ℕ
unfolding bytes
listed_by ok fix = bytes ok ++ 10 ∷ bytes fix ++ 10 ∷ bytes "COL FXA 012" ++ 10 ∷ bytes "COL SIU 08" ++ 10 ∷ []

-- "Line numbers", "the line count": in the listing the counts and values are those of document 01's, but for the 9 and the 5
pub listing_differs : (listing five_lines ≡ listed_by "OK 5 1 0 40 7 0 7" "FIX 4 43200 3090000 N 15000 W A 100 120")
    × (listing noted_five ≡ listed_by "OK 9 1 0 40 7 0 7" "FIX 5 43200 3090000 N 15000 W A 100 120")
unfolding everything file_of
listing_differs = (refl, refl)

-- ---- days

-- the flight over three midnights of claims_track without its one note, and with notes of which four, were they timed, would break the time order, hide a midnight or add one
abbrev pub noisy_nights : List ℕ
noisy_nights =
    file_of
    ("AXYZ001" ∷ "HFDTE311216" ∷ "L235960" ∷ "B2359585130000N00015000WA0010000120" ∷ "L120000" ∷ "K000001" ∷ "E000002PEV" ∷ "N000003" ∷ "F000004" ∷ "L235959" ∷ "B0000055130001N00015001WV0010100121"
    ∷ "K120006" ∷ "L060000" ∷ "N000005" ∷ "B0000065130002S00015002EA-001200122" ∷ "E235960PEV" ∷ "B0000005130003N00015003WA0010300123" ∷ "GABC" ∷ "L000000" ∷ [])

-- what is said of both
abbrev pub nights_saying : ℕ → Flight
nights_saying lines = record {
  date = record { day = 31; month = 12; year = 2016 };
  layouts = record { b = empty_layout; k = empty_layout; n = empty_layout };
  lines = lines;
  counts = record { b = 4; k = 2; n = 2 };
  signed = true;
}

pub nights_pair : ButForNotes seal.Strict nights (nights_saying 15) noisy_nights (nights_saying 19)
unfolding everything file_of without_l
nights_pair = record { room = None; room' = None; accepted = refl; accepted_too = refl; same = refl }

pub nights_unchanged : map unnumbered (track_of noisy_nights empty_layout) ≡ map unnumbered tracked
unfolding everything file_of track_from
nights_unchanged = refl

-- four fixes from 23:59:58 to 00:00:00 on day 3, up to 103 and down to -12 metres; the second is marked V, and the third is in the south and east
abbrev pub nights_told : List ℤ
nights_told =
    pos 4 ∷ pos 0 ∷ pos 86398 ∷ pos 3 ∷ pos 0 ∷ pos 103 ∷ neg_ℤ (pos 12) ∷ pos 1 ∷ neg_ℤ (pos 3090002) ∷ pos 3090003 ∷ neg_ℤ (pos 15003) ∷ pos 15002 ∷ []

-- the whole, and the one run
pub nights_summed : (summary_after nights 0 (replicate 25 (pos 99)) ≡ nights_told ++ (nights_told ++ (pos 99 ∷ [])))
    × (summary_after noisy_nights 0 (replicate 25 (pos 99)) ≡ nights_told ++ (nights_told ++ (pos 99 ∷ [])))
unfolding everything file_of track_from flight_summed updated told told_runs signed_count
nights_summed = (refl, refl)

-- "Line numbers": lines 3, 8, 12 and 14 are the B lines of the one, lines 4, 11, 15 and 17 those of the other
pub numbers_differ : (map (λ r. r.line) (track_of nights empty_layout) ≡ 3 ∷ 8 ∷ 12 ∷ 14 ∷ []) × (map (λ r. r.line) (track_of noisy_nights empty_layout) ≡ 4 ∷ 11 ∷ 15 ∷ 17 ∷ [])
unfolding everything file_of track_from
numbers_differ = (refl, refl)

-- ---- a note where no L line may come

-- "line 2 is H": the file is refused, so it is in no such pair
pub note_too_early : verdict seal.Usual (file_of ("AXYZ001" ∷ "LXYZ" ∷ "HFDTE150724" ∷ [])) None ≡ refuses 6 2 1
unfolding everything file_of
note_too_early = refl
