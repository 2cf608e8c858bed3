-- The tracks and the summaries of document 01's file of five lines, of the same with LAD and TDS put in, and of the same a second later; and of a file before and after an I, a J and an
-- M line were put in; of a file that had LAD, and of a flight over midnight to which LAD is added: worked out by hand. Computed. Assumes nothing.
use Prim.Native.Nat.{ℕ}
use Prim.Native.Char.{code}
use mathlib.Core.List.{List, [], ◌∷◌, ◌++◌}
use mathlib.Core.Path.{◌≡◌, refl}
use lib.IntN.{ℤ, pos, neg_ℤ}
use lib.ListN.{replicate}
use Rattle.rules.specs.Refusals.{says, refuses}
use Rattle.rules.specs.declared.Extra.TheVariants as extra
use Rattle.rules.specs.declared.Family.TheVariants as family
use Rattle.rules.specs.declared.Fix.{Fix}
use Rattle.rules.proofs.Computed.{everything, file_of}
use Rattle.rules.proofs.Damaged.{five_lines}
use Rattle.grammar_wider.specs.Wider.{width_in, text_in, limits_of, done, same, columned, put, no_layouts, front, from, WiderFile}
use Rattle.grammar_wider.proofs.FinerInstances.{fix_at, finer_added, with_lad, lad_kept}
use Rattle.grammar_wider.proofs.Instances.{told, laid, rest, fit, no_columns, with_all}
use Rattle.grammar_wider.proofs.NotWider.{value_changed}
use Rattle.track_rules.specs.Track.{track_from, flight_tracked, track_said, list_after}
use Rattle.track_rules.specs.declared.Record.{Record}
use Rattle.summary_fix.specs.Spots.{signed_count}
use Rattle.summary_reckon.specs.Summary.{told_runs, updated, flight_summed, summary_said, summary_after}
use Rattle.summary_reckon.specs.Summary as summary
use Rattle.claims_track.proofs.Worked.{row, lent}

-- ---- tracks

-- a list of two records afterwards
abbrev pub list_of : List ℕ → List Record
list_of file = list_after file (lent ∷ lent ∷ [])

-- LAD, 123, and TDS, 5: one record, of line 4, with finer counts; the second stays as lent
pub finer_track : (list_of five_lines ≡ row 4 0 (fix_at 43200 0 3090000 0) ∷ lent ∷ []) × (list_of finer_added ≡ row 4 0 (fix_at 432005 1 3090000123 3) ∷ lent ∷ [])
unfolding everything file_of track_from flight_tracked
finer_track = (refl, refl)

-- the B lines 4 and 8 are lines 7 and 11 behind three layout lines more
pub put_track : (list_of no_columns ≡ row 4 0 (fix_at 43200 0 3090000 0) ∷ row 8 0 (fix_at 43205 0 3090000 0) ∷ [])
    × (list_of with_all ≡ row 7 0 (fix_at 43200 0 3090000 0) ∷ row 11 0 (fix_at 43205 0 3090000 0) ∷ [])
unfolding everything file_of track_from flight_tracked
put_track = (refl, refl)

-- LAD, 1234, was there: count and decimals are the old ones
pub kept_track : (list_of with_lad ≡ row 4 0 (fix_at 43200 0 30900001234 4) ∷ lent ∷ []) × (list_of lad_kept ≡ row 4 0 (fix_at 43200 0 30900001234 4) ∷ lent ∷ [])
unfolding everything file_of track_from flight_tracked
kept_track = (refl, refl)

-- one record is needed, and there is room for none
pub short_track : (track_said five_lines 0 ≡ refuses 18 0 0) × (track_said finer_added 0 ≡ refuses 18 0 0) × (track_said five_lines 2 ≡ says 1) × (track_said finer_added 2 ≡ says 1)
unfolding everything file_of flight_tracked
short_track = (refl, refl, refl, refl)

-- a second later
pub changed_track : list_of value_changed ≡ row 4 0 (fix_at 43201 0 3090000 0) ∷ lent ∷ []
unfolding everything file_of track_from flight_tracked
changed_track = refl

-- ---- summaries

-- a list of 25 numbers afterwards, where there was a summary of so many fixes
abbrev pub summary_of : List ℕ → ℕ → List ℤ
summary_of file old = summary_after file old (replicate 25 (pos 99))

-- one fix on day 0 at this second, marked A, at 100 metres, 51 degrees 30 minutes north and 15 minutes west; the whole, the one run, and the number behind them
abbrev pub one_fix : ℕ → List ℤ
one_fix s = pos 1 ∷ pos 0 ∷ pos s ∷ pos 0 ∷ pos s ∷ pos 100 ∷ pos 100 ∷ pos 1 ∷ pos 3090000 ∷ pos 3090000 ∷ neg_ℤ (pos 15000) ∷ neg_ℤ (pos 15000) ∷ []

abbrev pub summed : ℕ → List ℤ
summed s = one_fix s ++ (one_fix s ++ (pos 99 ∷ []))

pub finer_summary : (summary_of five_lines 0 ≡ summed 43200) × (summary_of finer_added 0 ≡ summed 43200) × (summary_of five_lines 1 ≡ summed 43200) × (summary_of finer_added 1 ≡ summed 43200)
unfolding everything file_of track_from flight_summed updated summary.told told_runs signed_count
finer_summary = (refl, refl, refl, refl)

-- an old number of 2 fixes exceeds the new one
pub refused_summary : (summary_said five_lines 2 25 ≡ refuses 17 0 0) × (summary_said finer_added 2 25 ≡ refuses 17 0 0)
unfolding everything file_of flight_summed
refused_summary = (refl, refl)

pub changed_summary : summary_of value_changed 0 ≡ summed 43201
unfolding everything file_of track_from flight_summed updated summary.told told_runs signed_count
changed_summary = refl

-- ---- over midnight, in the south

-- the second fix, marked V and below zero, is on the next day, as the K line before it
abbrev pub over_night : List ℕ
unfolding file_of
over_night = file_of ("AXYZ001" ∷ "HFDTE311216" ∷ "B2359585130000S00015000WA0010000120" ∷ "K000001" ∷ "B0000055130001S00015001WV-005000121" ∷ "GABC" ∷ [])

-- an I line with LAD, 42 and 07, and a J line with HDT put in
abbrev pub over_wide : List ℕ
unfolding file_of
over_wide =
    file_of
    ("AXYZ001" ∷ "HFDTE311216" ∷ "I013637LAD" ∷ "J010810HDT" ∷ "B2359585130000S00015000WA001000012042" ∷ "K000001270" ∷ "B0000055130001S00015001WV-00500012107" ∷ "GABC" ∷ [])

pub over_wide_lem : WiderFile over_night over_wide
unfolding everything file_of width_in text_in limits_of told
over_wide_lem =
    front refl (front refl (from (put {i' = told family.B "I013637LAD"} refl (put {i' = told (family.Extra extra.K) "J010810HDT"} refl
    (rest {old = no_layouts} {new = laid "I013637LAD" "J010810HDT" ""}
    (columned family.B refl (record { fields = refl; long = refl; kept = tt; added = (fit refl refl, tt) })
    (columned (family.Extra extra.K) refl (record { fields = refl; long = refl; kept = tt; added = (fit refl refl, tt) })
    (columned family.B refl (record { fields = refl; long = refl; kept = tt; added = (fit refl refl, tt) }) (same refl done)))))))))

-- a latitude with its decimals, and the other values of the two fixes
abbrev pub early : ℕ → ℕ → Fix
early lat more = record {
  time = record { count = 86398; decimals = 0 };
  lat = record { count = lat; letter = code "S"; decimals = more };
  lon = record { count = 15000; letter = code "W"; decimals = 0 };
  validity = code "A";
  pressure = record { metres = pos 100 };
  gnss = record { metres = pos 120 };
}

abbrev pub late : ℕ → ℕ → Fix
late lat more = record {
  time = record { count = 5; decimals = 0 };
  lat = record { count = lat; letter = code "S"; decimals = more };
  lon = record { count = 15001; letter = code "W"; decimals = 0 };
  validity = code "V";
  pressure = record { metres = neg_ℤ (pos 50) };
  gnss = record { metres = pos 121 };
}

-- lines 3 and 5 are lines 5 and 7; the days stay 0 and 1
pub over_track : (list_of over_night ≡ row 3 0 (early 3090000 0) ∷ row 5 1 (late 3090001 0) ∷ []) × (list_of over_wide ≡ row 5 0 (early 309000042 2) ∷ row 7 1 (late 309000107 2) ∷ [])
unfolding everything file_of track_from flight_tracked
over_track = (refl, refl)

-- two fixes from 23:59:58 to 00:00:05 on day 1, up to 100 and down to -50 metres; the first alone has a position
abbrev pub over_told : List ℤ
over_told =
    pos 2 ∷ pos 0 ∷ pos 86398 ∷ pos 1 ∷ pos 5 ∷ pos 100 ∷ neg_ℤ (pos 50) ∷ pos 1 ∷ neg_ℤ (pos 3090000) ∷ neg_ℤ (pos 3090000) ∷ neg_ℤ (pos 15000) ∷ neg_ℤ (pos 15000) ∷ []

pub over_summary : (summary_of over_night 0 ≡ over_told ++ (over_told ++ (pos 99 ∷ []))) × (summary_of over_wide 0 ≡ over_told ++ (over_told ++ (pos 99 ∷ [])))
unfolding everything file_of track_from flight_summed updated summary.told told_runs signed_count
over_summary = (refl, refl)
