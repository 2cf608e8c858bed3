-- Added columns change nothing of the track and of the summary, what is claimed (demand 3 for the readings of a whole file). Its words stand in specs/Steady and in wider (Wider, Before).
-- Assumes nothing.
--
-- The claims on answers are about every answer that the contracts of `track::track`, `summary::summary` and `summary::with_date` allow (promises FileTracked, FileSummed and
-- FileDated), and by `only_file_tracked`, `only_file_summed` and `only_file_dated` that is one each. What a track and a summary are is on the pages of mapped (proofs/Track) and overview
-- (proofs/Summary).
use Rattle.rules_only.proofs.Told.{result_one}
use Rattle.rules.specs.declared.Refusal.{Refusal}
use Rattle.std.specs.Prelude.{None, Option, Result, Some}
use Prim.Native.Nat.{ℕ, ◌≤◌}
use mathlib.Core.List.{List, [], ◌∷◌, ◌++◌}
use mathlib.Core.Path.{◌≡◌, refl, sym, ◌∙◌, ap}
use lib.Dec.{lit≤}
use lib.IntN.{ℤ, pos}
use lib.ListN.{length}
use Rattle.rules.specs.Files.{verdict}
use Rattle.rules.specs.Order.{no_flight}
use Rattle.rules.specs.Refusals.{Said, says, refuses, value_or, result_told}
use Rattle.rules.specs.declared.Date.{Date}
use Rattle.rules.specs.declared.Flight.{Flight}
use Rattle.rules.specs.declared.Seal.{Seal}
use Rattle.rules.specs.declared.Seal.TheVariants as seal
use Rattle.rules.proofs.Computed.{everything, file_of}
use Rattle.rules.proofs.Damaged.{five_lines, five_layout, verdict_of_five}
use Rattle.grammar_wider.specs.Wider.{WiderFile}
use Rattle.grammar_wider.specs.Before.{put_in, ReadsAsBefore}
use Rattle.grammar_wider.proofs.Demand.{widened}
use Rattle.grammar_wider.proofs.FinerInstances.{fix_at, finer_added, finer_added_lem, with_lad, lad_kept}
use Rattle.grammar_wider.proofs.Instances.{no_columns, with_all, put_all}
use Rattle.grammar_wider.proofs.NotWider.{five, value_changed, value_changed_lem}
use Rattle.track_rules.specs.Track.{track_seal, track_said}
use Rattle.track_rules.specs.declared.Record.{Record}
use Rattle.track.specs.Tracks.{FileTracked}
use Rattle.summary.specs.Summaries.{FileSummed, FileDated}
use Rattle.summary.specs.declared.Dated.{Dated}
use Rattle.claims_track.proofs.Worked.{row, lent}
use Rattle.claims_notes.proofs.Tracks.{usually_accepted}
use Rattle.claims_steady.specs.Steady.{ListAsBefore, TrackAsBefore, SummaryAsBefore}
use Rattle.claims_steady.proofs.Answers.{track_before, summary_before, same_answer, refused_alike, given_alike}
use Rattle.claims_steady.proofs.Worked as worked
use Rattle.claims_steady.proofs.Worked.{list_of, summary_of, summed, over_night, over_wide, over_wide_lem, early, late, over_told}

-- take an accepted file, by any check, with a table or without one, and add columns to its B lines, K lines or N lines, within the limit of bytes
module _ (needs : Seal) (file file' : List ℕ) (room : Option ℕ) (f : Flight) (accepted : verdict needs file room ≡ says f) (wider : WiderFile file file') (limit : length file' ≤ 16777216) where
  usual : verdict track_seal file None ≡ says f
  usual = usually_accepted needs file room f accepted

  -- no table is lent, so the old file and the limit are all that is asked for
  wide : (f' : Flight) × (verdict track_seal file' None ≡ says f') × ReadsAsBefore file file' f f' (put_in wider)
  wide = widened track_seal file file' None None f usual wider limit refl

  -- ---- the track

  -- the same count, or 18 for the same lists; and record by record the old day and the old fix, with finer counts where LAD, LOD or TDS was added. Its line is further on by
  -- the layout lines that were put in
  pub widened_track : (f' : Flight) × (verdict track_seal file' None ≡ says f') × TrackAsBefore file file' f f' (put_in wider)
  widened_track = (wide.0, wide.1, track_before file file' f wide.0 usual wide.1 wider wide.2)

  module _ (list : List Record) (r r' : Result ℕ Refusal) (after after' : List Record) (a : FileTracked file list r after) (b : FileTracked file' list r' after') where
    -- by every answer that the contract of `track::track` allows: the answer is the old one
    pub track_answer : r' ≡ r
    track_answer = same_answer file file' f wide.0 usual wide.1 wider wide.2 list r r' after after' a b

    -- where records were stored, they are as before, and those beyond are the same
    pub track_stays : (f' : Flight) × (verdict track_seal file' None ≡ says f')
        × ((n : ℕ) → result_told r ≡ says n → ListAsBefore f.layouts.b f'.layouts.b (put_in wider) n after after')
    track_stays = (wide.0, wide.1, given_alike file file' f wide.0 usual wide.1 wider wide.2 list r r' after after' a b)

    -- where the list was short, it is left in both
    pub track_left : (n l k : ℕ) → result_told r ≡ refuses n l k → after' ≡ after
    track_left = refused_alike file file' f wide.0 usual wide.1 wider wide.2 list r r' after after' a b

  -- ---- the summary

  -- it has plain counts alone, so that finer digits change none of its numbers: the same is answered for every old number and every list, and every number of the list is afterwards the same
  pub widened_summary : SummaryAsBefore file file'
  widened_summary = summary_before file file' f wide.0 usual wide.1 wider wide.2

  module _ (old : ℕ) (list after after' : List ℤ) where
    -- by every answer that the contract of `summary::summary` allows
    pub summary_answer : (r r' : Result ℕ Refusal) → FileSummed file old list r after → FileSummed file' old list r' after' → (r' ≡ r) × (after' ≡ after)
    summary_answer r r' a b = (
      result_one r' r (b.told ∙ widened_summary.said old (length list) ∙ sym a.told),
      b.numbers ∙ widened_summary.after old list ∙ sym a.numbers,
    )

    -- and with the date beside it
    pub dated_answer : (r r' : Dated) → FileDated file old list r after → FileDated file' old list r' after' → (r'.answer ≡ r.answer) × (r'.date ≡ r.date) × (after' ≡ after)
    dated_answer r r' a b =
        let s = summary_answer r.answer r'.answer a.summed b.summed in
        let d : Said Flight → Date = λ v. (value_or no_flight v).date in
        (s.0, b.date ∙ ap d wide.1 ∙ wide.2.date ∙ sym (ap d usual) ∙ sym a.date, s.1)

-- ---- worked

-- so of document 01's file and of the same with LAD and TDS put in
pub five_and_finer : (f' : Flight) × (verdict track_seal finer_added None ≡ says f') × TrackAsBefore five_lines finer_added (five five_layout) f' (put_in finer_added_lem)
unfolding everything file_of
five_and_finer = widened_track seal.Strict five_lines finer_added (Some 16) (five five_layout) verdict_of_five finer_added_lem (lit≤ tt)

pub five_summed : SummaryAsBefore five_lines finer_added
unfolding everything file_of
five_summed = widened_summary seal.Strict five_lines finer_added (Some 16) (five five_layout) verdict_of_five finer_added_lem (lit≤ tt)

-- computed: time and latitude before, and finer; the B lines 4 and 8 behind an I, a J and an M line that were put in; 18 for a list of no record; the summary, whose numbers are the same
pub same_flights : (list_of five_lines ≡ row 4 0 (fix_at 43200 0 3090000 0) ∷ lent ∷ []) × (list_of finer_added ≡ row 4 0 (fix_at 432005 1 3090000123 3) ∷ lent ∷ [])
    × (list_of no_columns ≡ row 4 0 (fix_at 43200 0 3090000 0) ∷ row 8 0 (fix_at 43205 0 3090000 0) ∷ []) × WiderFile no_columns with_all
    × (list_of with_all ≡ row 7 0 (fix_at 43200 0 3090000 0) ∷ row 11 0 (fix_at 43205 0 3090000 0) ∷ [])
    × (track_said five_lines 0 ≡ refuses 18 0 0) × (track_said finer_added 0 ≡ refuses 18 0 0)
    × (summary_of five_lines 0 ≡ summed 43200) × (summary_of finer_added 0 ≡ summed 43200)
same_flights = ((worked.finer_track).0, (worked.finer_track).1, (worked.put_track).0, put_all, (worked.put_track).1, (worked.short_track).0, (worked.short_track).1, (worked.finer_summary).0, (worked.finer_summary).1)

-- ENL put before the LAD of a file that had it, where the counts and their decimals are the old ones; LAD and a J line put into a flight over midnight, where lines 3 and 5 are then 5 and 7
-- and the days stay 0 and 1
pub kept_flights : (list_of with_lad ≡ row 4 0 (fix_at 43200 0 30900001234 4) ∷ lent ∷ []) × (list_of lad_kept ≡ row 4 0 (fix_at 43200 0 30900001234 4) ∷ lent ∷ []) × WiderFile over_night over_wide
    × (list_of over_night ≡ row 3 0 (early 3090000 0) ∷ row 5 1 (late 3090001 0) ∷ []) × (list_of over_wide ≡ row 5 0 (early 309000042 2) ∷ row 7 1 (late 309000107 2) ∷ [])
    × (summary_of over_night 0 ≡ over_told ++ (over_told ++ (pos 99 ∷ []))) × (summary_of over_wide 0 ≡ over_told ++ (over_told ++ (pos 99 ∷ [])))
kept_flights = ((worked.kept_track).0, (worked.kept_track).1, over_wide_lem, (worked.over_track).0, (worked.over_track).1, (worked.over_summary).0, (worked.over_summary).1)

-- no file with added columns is one whose fix is a second later: its track and its summary are others
pub other_flights : (WiderFile five_lines value_changed → ⊥) × (list_of value_changed ≡ row 4 0 (fix_at 43201 0 3090000 0) ∷ lent ∷ []) × (summary_of value_changed 0 ≡ summed 43201)
other_flights = (value_changed_lem, worked.changed_track, worked.changed_summary)
