-- A flight over three midnights, worked out by hand: its track, the answers for lists of several lengths, and the lists afterwards; then a file with finer digits, one that is refused,
-- one that is not signed, and one without B lines. Computed. Assumes nothing.
use Prim.Native.Nat.{ℕ}
use Prim.Native.Char.{code}
use mathlib.Core.List.{List, [], ◌∷◌, ◌++◌}
use mathlib.Core.Path.{◌≡◌, refl}
use lib.IntN.{pos, neg_ℤ}
use lib.ListN.{replicate}
use Rattle.rules.specs.Choice.{bytes}
use Rattle.rules.specs.Layouts.{empty_layout}
use Rattle.rules.specs.Reads.{layout_said}
use Rattle.rules.specs.Refusals.{says, refuses, value_or}
use Rattle.rules.specs.declared.Family.TheVariants as family
use Rattle.rules.specs.declared.Fix.{Fix}
use Rattle.rules.specs.declared.Layout.{Layout}
use Rattle.rules.proofs.Computed.{everything, file_of}
use Rattle.track_rules.specs.Track.{track_from, track_of, flight_tracked, track_said, list_after}
use Rattle.track_rules.specs.declared.Record.{Record}

-- The first midnight shows between a B and a K line; the second, a fall of 43,201, between a K and an N line, and no B line falls there; the third is behind the leap second of an
-- E line. Lines 3, 8, 12 and 14 are B lines.
abbrev pub nights : List ℕ
nights =
    file_of
    ("AXYZ001" ∷ "HFDTE311216" ∷ "B2359585130000N00015000WA0010000120" ∷ "K000001" ∷ "E000002PEV" ∷ "N000003" ∷ "F000004" ∷ "B0000055130001N00015001WV0010100121" ∷ "LXYZ a note"
    ∷ "K120006" ∷ "N000005" ∷ "B0000065130002S00015002EA-001200122" ∷ "E235960PEV" ∷ "B0000005130003N00015003WA0010300123" ∷ "GABC" ∷ [])

-- a record of its line, its day and its fix
abbrev pub row : ℕ → ℕ → Fix → Record
row line day fix = record { line = line; day = day; fix = fix }

-- 51 degrees 30 minutes are 3,090,000 thousandths of a minute, 15 minutes 15,000
abbrev pub tracked : List Record
tracked =
    row 3 0 (record { time = record { count = 86398; decimals = 0 }; lat = record { count = 3090000; letter = code "N"; decimals = 0 }; lon = record { count = 15000; letter = code "W"; decimals = 0 }; validity = code "A"; pressure = record { metres = pos 100 }; gnss = record { metres = pos 120 } })
    ∷ row 8 1 (record { time = record { count = 5; decimals = 0 }; lat = record { count = 3090001; letter = code "N"; decimals = 0 }; lon = record { count = 15001; letter = code "W"; decimals = 0 }; validity = code "V"; pressure = record { metres = pos 101 }; gnss = record { metres = pos 121 } })
    ∷ row 12 2 (record { time = record { count = 6; decimals = 0 }; lat = record { count = 3090002; letter = code "S"; decimals = 0 }; lon = record { count = 15002; letter = code "E"; decimals = 0 }; validity = code "A"; pressure = record { metres = neg_ℤ (pos 12) }; gnss = record { metres = pos 122 } })
    ∷ row 14 3 (record { time = record { count = 0; decimals = 0 }; lat = record { count = 3090003; letter = code "N"; decimals = 0 }; lon = record { count = 15003; letter = code "W"; decimals = 0 }; validity = code "A"; pressure = record { metres = pos 103 }; gnss = record { metres = pos 123 } })
    ∷ []

pub track_of_nights : track_of nights empty_layout ≡ tracked
unfolding everything file_of track_from
track_of_nights = refl

-- "Refusals: the file's own, then 18 if the list is short"; "the count is the number of B lines"
pub said_of_nights : (track_said nights 4 ≡ says 4) × (track_said nights 5 ≡ says 4) × (track_said nights 3 ≡ refuses 18 0 0) × (track_said [] 9 ≡ refuses 1 0 0)
unfolding everything file_of flight_tracked
said_of_nights = (refl, refl, refl, refl)

-- a record that no file has
abbrev pub lent : Record
lent = row 99 99 (record { time = record { count = 99; decimals = 99 }; lat = record { count = 99; letter = 99; decimals = 99 }; lon = record { count = 99; letter = 99; decimals = 99 }; validity = 99; pressure = record { metres = pos 99 }; gnss = record { metres = pos 99 } })

-- "records beyond stay as lent"; "with no record changed"
pub list_of_nights : (list_after nights (replicate 6 lent) ≡ tracked ++ (lent ∷ lent ∷ [])) × (list_after nights (replicate 3 lent) ≡ replicate 3 lent)
unfolding everything file_of track_from flight_tracked
list_of_nights = (refl, refl)

-- ---- a file with finer digits

-- One digit for the time, four for each coordinate. The second fix has the plain time of the first and a smaller digit, and the time order goes by the plain time; the third is behind
-- midnight, at 90 and 180 degrees, where the digits can only be zeros.
abbrev pub fine : List ℕ
fine =
    file_of
    ("AXYZ001" ∷ "HFDTE311216" ∷ "I033636TDS3740LAD4144LOD" ∷ "B2359595130000N00015000WA0010000120912340009" ∷ "B2359595130001N00015001WA0010000120200000000" ∷ "B0000009000000S18000000EV0010100121500000000"
    ∷ "GABC" ∷ [])

abbrev pub fine_layout : Layout
unfolding bytes
fine_layout = value_or empty_layout (layout_said family.B (bytes "I033636TDS3740LAD4144LOD"))

-- "the old count times ten for each digit, plus the digits"
abbrev pub finely_tracked : List Record
finely_tracked =
    row 4 0 (record { time = record { count = 863999; decimals = 1 }; lat = record { count = 30900001234; letter = code "N"; decimals = 4 }; lon = record { count = 150000009; letter = code "W"; decimals = 4 }; validity = code "A"; pressure = record { metres = pos 100 }; gnss = record { metres = pos 120 } })
    ∷ row 5 0 (record { time = record { count = 863992; decimals = 1 }; lat = record { count = 30900010000; letter = code "N"; decimals = 4 }; lon = record { count = 150010000; letter = code "W"; decimals = 4 }; validity = code "A"; pressure = record { metres = pos 100 }; gnss = record { metres = pos 120 } })
    ∷ row 6 1 (record { time = record { count = 5; decimals = 1 }; lat = record { count = 54000000000; letter = code "S"; decimals = 4 }; lon = record { count = 108000000000; letter = code "E"; decimals = 4 }; validity = code "V"; pressure = record { metres = pos 101 }; gnss = record { metres = pos 121 } })
    ∷ []

pub track_of_fine : track_of fine fine_layout ≡ finely_tracked
unfolding everything file_of track_from
track_of_fine = refl

pub list_of_fine : (track_said fine 3 ≡ says 3) × (list_after fine (replicate 4 lent) ≡ finely_tracked ++ (lent ∷ []))
unfolding everything file_of track_from flight_tracked
list_of_fine = (refl, refl)

-- "13 for digits past a limit"
abbrev pub past : List ℕ
past = file_of ("AXYZ001" ∷ "HFDTE311216" ∷ "I033636TDS3740LAD4144LOD" ∷ "B0000009000000S18000000EV0010100121500000001" ∷ "GABC" ∷ [])

pub said_of_past : track_said past 1 ≡ refuses 13 4 41
unfolding everything file_of flight_tracked
said_of_past = refl

-- ---- a file refused, with a list that is too short as well

-- a D line stands behind the G line: "the file's own, then 18 if the list is short". It is line 6, and the two B lines have no room in a list of one
abbrev pub spoiled : List ℕ
spoiled = file_of ("AXYZ001" ∷ "HFDTE311216" ∷ "B2359585130000N00015000WA0010000120" ∷ "B0000055130001N00015001WV0010100121" ∷ "GABC" ∷ "D11234" ∷ [])

pub said_of_spoiled : (track_said spoiled 2 ≡ refuses 6 6 1) × (track_said spoiled 1 ≡ refuses 6 6 1) × (track_said spoiled 0 ≡ refuses 6 6 1)
unfolding everything file_of flight_tracked
said_of_spoiled = (refl, refl, refl)

pub list_of_spoiled : (list_after spoiled (replicate 2 lent) ≡ replicate 2 lent) × (list_after spoiled (lent ∷ []) ≡ lent ∷ [])
unfolding everything file_of track_from flight_tracked
list_of_spoiled = (refl, refl)

-- ---- a file that is not signed

-- no G line: "The usual check now accepts a file with no G"
abbrev pub unsealed : List ℕ
unsealed = file_of ("AXYZ001" ∷ "HFDTE311216" ∷ "B2359585130000N00015000WA0010000120" ∷ "B0000055130001N00015001WV0010100121" ∷ [])

pub said_of_unsealed : (track_said unsealed 2 ≡ says 2) × (track_said unsealed 1 ≡ refuses 18 0 0)
unfolding everything file_of flight_tracked
said_of_unsealed = (refl, refl)

-- ---- a file without B lines

-- its time goes on in a K line; no record is stored, and an empty list is long enough
abbrev pub grounded : List ℕ
grounded = file_of ("AXYZ001" ∷ "HFDTE311216" ∷ "K120000" ∷ "GABC" ∷ [])

pub said_of_grounded : (track_said grounded 0 ≡ says 0) × (track_said grounded 2 ≡ says 0)
unfolding everything file_of flight_tracked
said_of_grounded = (refl, refl)

pub list_of_grounded : (list_after grounded [] ≡ []) × (list_after grounded (replicate 2 lent) ≡ replicate 2 lent)
unfolding everything file_of track_from flight_tracked
list_of_grounded = (refl, refl)
