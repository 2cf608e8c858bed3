-- A flight that has grown, worked out by hand: its summary afresh and brought up to date; and a B line put in earlier, which `Grown` does not allow, and with which an update would differ.
-- Then a flight whose first run is full, brought up to date. Computed. Assumes nothing.
use Prim.Native.Nat.{ℕ}
use Prim.Native.Char.{code}
use Prim.Native.String.{String}
use mathlib.Core.List.{List, [], ◌∷◌, ◌++◌, map, append-nil}
use mathlib.Core.Path.{◌≡◌, refl, sym, ap, ◌∙◌}
use native.Mathlib.Omega.{arith}
use borrow.Author.Tests.{ne_eqb}
use lib.IntN.{ℤ, pos, neg_ℤ}
use lib.ListN.{get_or, replicate}
use Rattle.rules.specs.Choice.{bytes}
use Rattle.rules.specs.Fields.{is_either}
use Rattle.rules.specs.Fixes.{plain, plain_position}
use Rattle.rules.specs.Refusals.{says, refuses}
use Rattle.rules.proofs.Computed.{everything, file_of}
use Rattle.rules.proofs.Inverse.{false_true}
use Rattle.grammar.specs.Coming.{is_among, those}
use Rattle.track_rules.specs.Track.{track_from}
use Rattle.track_rules.specs.declared.Record.{Record}
use Rattle.summary_fix.specs.Spots.{signed_count}
use Rattle.summary_reckon.specs.Summary.{told, told_runs, updated, flight_summed, summary_said, summary_after}
use Rattle.claims_summary.specs.Overview.{nth, PutIn, done, put, kept, Grown}
use Rattle.claims_summary.proofs.Growing.{those_append, no_fix}

-- ---- a flight, and the same flight later

-- one fix, then a note and a D line
abbrev pub older : List String
older = "AXYZ001" ∷ "HFDTE150724" ∷ "B1200005130000N00015000WA0010000120" ∷ "LXYZ a note" ∷ "D11234" ∷ "GABC" ∷ []

-- B lines before the note, between the note and the D line, and behind it; the second is marked V, the third is below sea level and in the south
abbrev pub newer : List String
newer =
    "AXYZ001" ∷ "HFDTE150724" ∷ "B1200005130000N00015000WA0010000120" ∷ "B1200055130001N00015001WA0010100120" ∷ "LXYZ a note" ∷ "B1200109000000N18000000EV0090000120" ∷ "D11234"
    ∷ "B1200155130002S00015002WA-001200120" ∷ "GABC" ∷ []

pub has_grown : Grown (map bytes older) (map bytes newer)
unfolding bytes is_among
has_grown = record {
  same = map bytes ("AXYZ001" ∷ "HFDTE150724" ∷ "B1200005130000N00015000WA0010000120" ∷ []);
  rest = map bytes ("LXYZ a note" ∷ "D11234" ∷ "GABC" ∷ []);
  more = map bytes ("B1200055130001N00015001WA0010100120" ∷ "LXYZ a note" ∷ "B1200109000000N18000000EV0090000120" ∷ "D11234" ∷ "B1200155130002S00015002WA-001200120" ∷ "GABC" ∷ []);
  before = refl;
  since = refl;
  puts = put refl (kept false_true (put refl (kept false_true (put refl (kept false_true done)))));
}

-- the twelve numbers of the one fix, and of the four: noon and 15 seconds later; 900 metres of the fix marked V are the highest, its position does not count
abbrev pub one : List ℤ
one = pos 1 ∷ pos 0 ∷ pos 43200 ∷ pos 0 ∷ pos 43200 ∷ pos 100 ∷ pos 100 ∷ pos 1 ∷ pos 3090000 ∷ pos 3090000 ∷ neg_ℤ (pos 15000) ∷ neg_ℤ (pos 15000) ∷ []

abbrev pub four : List ℤ
four = pos 4 ∷ pos 0 ∷ pos 43200 ∷ pos 0 ∷ pos 43215 ∷ pos 900 ∷ neg_ℤ (pos 12) ∷ pos 1 ∷ neg_ℤ (pos 3090002) ∷ pos 3090001 ∷ neg_ℤ (pos 15002) ∷ neg_ℤ (pos 15000) ∷ []

abbrev pub lent : List ℤ
lent = replicate 25 (pos 99)

pub summary_of_older : summary_after (file_of older) 0 lent ≡ one ++ (one ++ (pos 99 ∷ []))
unfolding everything file_of track_from flight_summed updated told told_runs signed_count
summary_of_older = refl

-- "plain seconds", "signed plain counts": with the greatest finer digits that its columns can have, the one fix has the same twelve numbers
abbrev pub finer : List String
finer = "AXYZ001" ∷ "HFDTE150724" ∷ "I033638TDS3942LAD4346LOD" ∷ "B1200005130000N00015000WA001000012099999999999" ∷ "GABC" ∷ []

pub summary_of_finer : summary_after (file_of finer) 0 lent ≡ one ++ (one ++ (pos 99 ∷ []))
unfolding everything file_of track_from flight_summed updated told told_runs signed_count
summary_of_finer = refl

-- the run is not full, so that an update works it out again
pub summary_of_newer : (summary_after (file_of newer) 0 lent ≡ four ++ (four ++ (pos 99 ∷ []))) × (summary_after (file_of newer) 1 (one ++ (one ++ (pos 99 ∷ []))) ≡ four ++ (four ++ (pos 99 ∷ [])))
unfolding everything file_of track_from flight_summed updated told told_runs signed_count
summary_of_newer = (refl, refl)

-- "Refusals: .. 17 if the old number exceeds the new, then 18 if the list is short"
pub said_of_newer : (summary_said (file_of newer) 4 24 ≡ says 1) × (summary_said (file_of newer) 4 23 ≡ refuses 18 0 0) × (summary_said (file_of newer) 5 23 ≡ refuses 17 0 0) × (summary_said [] 5 23 ≡ refuses 1 0 0)
unfolding everything file_of flight_summed
said_of_newer = (refl, refl, refl, refl)

-- ---- a B line put in earlier

-- the B lines of a file that has grown begin with those of the older one
fixes_first : {older newer : List (List ℕ)} → Grown older newer → (others : List (List ℕ)) × (those (code "B") newer ≡ those (code "B") older ++ others)
unfolding those
fixes_first {older = older} {newer = newer} g =
    let b = code "B" in
    let o : those b older ≡ those b g.same = ap (those b) g.before ∙ those_append b g.same g.rest ∙ ap (λ (k : List (List ℕ)). those b g.same ++ k) (none g.puts) ∙ append-nil (those b g.same) in
    (those b g.more, ap (those b) g.since ∙ those_append b g.same g.more ∙ ap (λ (k : List (List ℕ)). k ++ those b g.more) (sym o))
  where
    none : {rest more : List (List ℕ)} → PutIn rest more → those (code "B") rest ≡ []
    none done = refl
    none (put e p) = none p
    none (kept {l = l} h p) = rw (ne_eqb (get_or l 0 0) (code "B") (no_fix l h)) (none p)

-- the same flight with a B line of 11:00:00, at 200 metres, before its fix: not allowed
abbrev pub earlier : List String
earlier = "AXYZ001" ∷ "HFDTE150724" ∷ "B1100005130000N00015000WA0020000120" ∷ "B1200005130000N00015000WA0010000120" ∷ "LXYZ a note" ∷ "D11234" ∷ "GABC" ∷ []

-- byte 3 of the first B line is 1, and was 2
pub not_grown : Grown (map bytes older) (map bytes earlier) → ⊥
unfolding bytes those
not_grown g =
    let x = fixes_first g in
    let z : ◌≡◌ {A = ℕ} 49 50 = ap (λ (ls : List (List ℕ)). get_or (get_or ls 0 []) 2 0) x.1 in
    omega (arith, z)

-- a run of 256 fixes at 100 metres, and the same with one at 200 metres before it
abbrev pub low : Record
low = record { line = 3; day = 0; fix = record { time = record { count = 43200; decimals = 0 }; lat = record { count = 3090000; letter = code "N"; decimals = 0 }; lon = record { count = 15000; letter = code "W"; decimals = 0 }; validity = code "A"; pressure = record { metres = pos 100 }; gnss = record { metres = pos 120 } } }

abbrev high : Record
high = record { line = 3; day = 0; fix = record { time = record { count = 39600; decimals = 0 }; lat = record { count = 3090000; letter = code "N"; decimals = 0 }; lon = record { count = 15000; letter = code "W"; decimals = 0 }; validity = code "A"; pressure = record { metres = pos 200 }; gnss = record { metres = pos 120 } } }

-- the summary of the older flight, brought up to date: run 0 keeps its 100 metres, where one made afresh has 200
pub update_differs : (nth 17 (updated 256 (high ∷ replicate 256 low) (updated 0 (replicate 256 low) (replicate 36 (pos 0)))) ≡ pos 100) × (nth 17 (updated 0 (high ∷ replicate 256 low) (replicate 36 (pos 0))) ≡ pos 200)
unfolding updated told told_runs plain plain_position signed_count is_either
update_differs = (refl, refl)

-- ---- a full run that is kept

-- an hour later, 300 metres up and a thousandth of a minute north and west of the 256 fixes; then a minute behind midnight, marked V, 5 metres below sea level
abbrev pub later : Record
later = record { line = 259; day = 0; fix = record { time = record { count = 46800; decimals = 0 }; lat = record { count = 3090001; letter = code "N"; decimals = 0 }; lon = record { count = 15001; letter = code "W"; decimals = 0 }; validity = code "A"; pressure = record { metres = pos 300 }; gnss = record { metres = pos 320 } } }

abbrev pub night : Record
night = record { line = 260; day = 1; fix = record { time = record { count = 60; decimals = 0 }; lat = record { count = 5400000; letter = code "S"; decimals = 0 }; lon = record { count = 0; letter = code "E"; decimals = 0 }; validity = code "V"; pressure = record { metres = neg_ℤ (pos 5) }; gnss = record { metres = pos 0 } } }

abbrev pub long : List Record
long = replicate 256 low ++ (later ∷ night ∷ [])

-- the twelve numbers of the whole, of run 0 and of run 1
abbrev pub whole : List ℤ
whole = pos 258 ∷ pos 0 ∷ pos 43200 ∷ pos 1 ∷ pos 60 ∷ pos 300 ∷ neg_ℤ (pos 5) ∷ pos 1 ∷ pos 3090000 ∷ pos 3090001 ∷ neg_ℤ (pos 15001) ∷ neg_ℤ (pos 15000) ∷ []

abbrev pub full : List ℤ
full = pos 256 ∷ pos 0 ∷ pos 43200 ∷ pos 0 ∷ pos 43200 ∷ pos 100 ∷ pos 100 ∷ pos 1 ∷ pos 3090000 ∷ pos 3090000 ∷ neg_ℤ (pos 15000) ∷ neg_ℤ (pos 15000) ∷ []

abbrev pub begun : List ℤ
begun = pos 2 ∷ pos 0 ∷ pos 46800 ∷ pos 1 ∷ pos 60 ∷ pos 300 ∷ neg_ℤ (pos 5) ∷ pos 1 ∷ pos 3090001 ∷ pos 3090001 ∷ neg_ℤ (pos 15001) ∷ neg_ℤ (pos 15001) ∷ []

-- a list of 37 numbers, one more than these, in which run 0 is kept
abbrev pub listed : List ℤ → List ℤ
listed run = replicate 12 (pos 99) ++ (run ++ replicate 13 (pos 99))

-- with the numbers of run 0 in the list, an update told 256 fixes makes what is made afresh; "Numbers past the last run stay."
pub full_run_kept : (updated 256 long (listed full) ≡ whole ++ (full ++ (begun ++ (pos 99 ∷ [])))) × (updated 0 long (listed full) ≡ whole ++ (full ++ (begun ++ (pos 99 ∷ []))))
unfolding updated told told_runs plain plain_position signed_count is_either
full_run_kept = (refl, refl)

-- other numbers stand there: told 256 fixes, "earlier runs keep their lent numbers"; told 255, run 0 was not full, and is worked out again
pub other_run_kept : (updated 256 long (listed (replicate 12 (pos 77))) ≡ whole ++ (replicate 12 (pos 77) ++ (begun ++ (pos 99 ∷ []))))
    × (updated 255 long (listed (replicate 12 (pos 77))) ≡ whole ++ (full ++ (begun ++ (pos 99 ∷ []))))
unfolding updated told told_runs plain plain_position signed_count is_either
other_run_kept = (refl, refl)
