-- Notes tell nothing and change nothing, what is claimed. Its words stand in specs/Notes, and in grammar_alike (Alike). Assumes nothing.
--
-- How the definitions are the library's answers stands on the pages of grammar (proofs/Demands) and, for the track, of claims_track (proofs/Track), for the summary, of claims_summary (proofs/Summary).
--
-- What may differ: "Line numbers" (of a track's record, in a listing), "offsets" (a line's bounds, a reading place), "the line count" (`lines` of what the check says), "the table", "lines got by
-- number or by stepping and the text of the L lines". In a worked pair the table, a line by its number, the line count and the line numbers do (proofs/Worked: `table_differs`, `line_differs`,
-- `listing_differs`, `numbers_differ`). docs/CONTRACTS.md has every public reading of an accepted file in one of the two lists.
use Rattle.rules_only.proofs.Told.{result_one}
use Rattle.rules.specs.declared.Refusal.{Refusal}
use Rattle.std.specs.Prelude.{None, Result}
use Prim.Native.Nat.{ℕ}
use Prim.Native.Char.{code}
use mathlib.Core.Bool.{true, false}
use mathlib.Core.List.{List, [], ◌∷◌, ◌++◌, map}
use mathlib.Core.Logic.{◌⊎◌, inl, inr}
use mathlib.Core.Path.{◌≡◌, sym, ◌∙◌, ap}
use native.Mathlib.Omega.{arith}
use lib.IntN.{ℤ}
use lib.ListN.{length, get_or}
use Rattle.rules.specs.Choice.{Each}
use Rattle.rules.specs.Families.{layout_of}
use Rattle.rules.specs.Files.{verdict}
use Rattle.rules.specs.Layouts.{length_said, presence_said}
use Rattle.rules.specs.Reads.{date_said, event_said, satellites_said, head_said, head_rest, point_said, point_rest}
use Rattle.rules.specs.Refusals.{says, result_told}
use Rattle.rules.specs.Split.{lines_of}
use Rattle.rules.specs.declared.Family.TheVariants as family
use Rattle.rules.specs.declared.Flight.{Flight}
use Rattle.rules.specs.declared.Layouts.{Layouts}
use Rattle.rules.specs.declared.Seal.{Seal}
use Rattle.rules.specs.declared.Seal.TheVariants as seal
use Rattle.rules.proofs.Damaged.{five_lines}
use Rattle.rules.proofs.SignedFiles.{four_lines}
use Rattle.grammar.specs.Grammar.{IsText, lines_in, join_lines, Meets}
use Rattle.grammar.proofs.Reading.{lines_are}
use Rattle.grammar_alike.specs.Alike.{without_l, SaysAlike}
use Rattle.grammar_alike.proofs.Filters.{cut_as}
use Rattle.grammar_alike.proofs.Alike.{says_alike, nth_alike, readings_alike, columns_alike}
use Rattle.claims_merge.specs.Evening.{Makes}
use Rattle.claims_merge.proofs.Evening.{merged_reads, merged_reads_second}
use Rattle.track_rules.specs.Track.{track_of}
use Rattle.track_rules.specs.declared.Record.{Record}
use Rattle.track.specs.Tracks.{FileTracked}
use Rattle.summary_reckon.specs.Summary.{updated}
use Rattle.summary.specs.Summaries.{FileSummed}
use Rattle.claims_notes.specs.Notes.{its_lines, ButForNotes, nth, unnumbered, days_and_fixes, NothingChanged}
use Rattle.claims_notes.proofs.Walks.{walks_alike}
use Rattle.claims_notes.proofs.Tracks as tracks
use Rattle.claims_notes.proofs.Summaries as summaries
use Rattle.claims_notes.proofs.Worked.{noted_five, noted_four, saying}
use Rattle.claims_notes.proofs.Worked as worked

module _ (seal : Seal) (file : List ℕ) (f : Flight) (other : List ℕ) (g : Flight) (w : ButForNotes seal file f other g) where
  abbrev alike : SaysAlike f (its_lines file) g (its_lines other)
  alike = says_alike seal file other w.room w.room' f g w.accepted w.accepted_too w.same

  fixes : days_and_fixes other g ≡ days_and_fixes file f
  fixes = ap (λ (i : Layouts). map unnumbered (track_of other i.b)) alike.layouts ∙ walks_alike f.layouts.b (lines_of file) (lines_of other) w.same

  -- the nth line of a kind other than L, read with the layouts by any reader
  pub any_reading : {A : Type 0} (reader : Layouts → List ℕ → A) (letter : ℕ) → (letter ≡ code "L" → ⊥) → (n : ℕ) → reader g.layouts (nth letter other n) ≡ reader f.layouts (nth letter file n)
  any_reading = nth_alike f (its_lines file) g (its_lines other) alike

  -- whatever is made of the records of a track and takes no notice of their line numbers
  pub made_alike : {A : Type 0} (make : List Record → A) → ((rs : List Record) → make rs ≡ make (map unnumbered rs)) → make (track_of other g.layouts.b) ≡ make (track_of file f.layouts.b)
  made_alike make h = h (track_of other g.layouts.b) ∙ ap make fixes ∙ sym (h (track_of file f.layouts.b))

  -- "Then their date, layouts, presence word, declaration, signed answer, nth fix with its columns, nth K and N line, event and satellite line, and summary are equal."; of the others: "no other
  -- reading of one accepted file may" differ
  pub notes_change_nothing : NothingChanged file f other g
  notes_change_nothing =
      let p = tracks.usually_accepted seal file w.room f w.accepted in
      let q = tracks.usually_accepted seal other w.room' g w.accepted_too in
      let no_c : code "C" ≡ code "L" → ⊥ = λ e. omega (arith, e) in
      record {
        date = alike.date;
        date_line = any_reading (λ _ l. date_said l) (code "H") (λ e. omega (arith, e)) 0;
        layouts = alike.layouts;
        lengths = λ x. ap (λ (i : Layouts). length_said x (layout_of x i)) alike.layouts;
        presence = ap (λ (i : Layouts). presence_said i.b) alike.layouts;
        declaration = ap length (alike.kinds (code "C") no_c);
        heads = any_reading (λ _ l. head_said l) (code "C") no_c;
        head_texts = any_reading (λ _ l. head_rest l (head_said l)) (code "C") no_c;
        points = any_reading (λ _ l. point_said l) (code "C") no_c;
        point_texts = any_reading (λ _ l. point_rest l (point_said l)) (code "C") no_c;
        signed = alike.signed;
        counts = alike.counts;
        readings = readings_alike f (its_lines file) g (its_lines other) alike;
        columns = columns_alike f (its_lines file) g (its_lines other) alike;
        events = any_reading (λ _ l. event_said l) (code "E") (λ e. omega (arith, e));
        satellites = any_reading (λ _ l. satellites_said l) (code "F") (λ e. omega (arith, e));
        tracked = tracks.answers_alike file f other g p q (alike.counts family.B);
        track = tracks.lists_alike file f other g p q (alike.counts family.B) fixes;
        summed = summaries.answers_alike file f other g p q (alike.counts family.B);
        summary = λ old list. summaries.lists_alike file f other g p q (alike.counts family.B) old list (made_alike (λ rs. updated old rs list) (summaries.unnumbered_summed old list));
        days_and_fixes_lem = fixes;
        kinds = alike.kinds;
      }

  -- ---- the same of what the library answers

  -- a track of each into the same list, by every answer that the contract of `track::track` allows
  pub tracks_alike : (list : List Record) (r r' : Result ℕ Refusal) (after after' : List Record) → FileTracked file list r after → FileTracked other list r' after'
      → (result_told r' ≡ result_told r) × (map unnumbered after' ≡ map unnumbered after)
  tracks_alike list r r' after after' a b = (
    b.told ∙ notes_change_nothing.tracked (length list) ∙ sym a.told,
    ap (map unnumbered) b.records ∙ notes_change_nothing.track list ∙ sym (ap (map unnumbered) a.records),
  )

  -- a summary of each with the same old number and the same list, by every answer that the contract of `summary::summary` allows
  pub summaries_alike : (old : ℕ) (list : List ℤ) (r r' : Result ℕ Refusal) (after after' : List ℤ) → FileSummed file old list r after → FileSummed other old list r' after' → (r' ≡ r) × (after' ≡ after)
  summaries_alike old list r r' after after' a b = (
    result_one r' r (b.told ∙ notes_change_nothing.summed old (length list) ∙ sym a.told),
    b.numbers ∙ notes_change_nothing.summary old list ∙ sym a.numbers,
  )

-- ---- which files are such a pair

-- the lines of a file that meets the grammar are the grammar's; and a file that is these texts, each with its CR LF, has them as its lines
pub lines_meant : {seal : Seal} (file : List ℕ) (m : Meets seal file) → its_lines file ≡ lines_in m.parts
lines_meant = lines_are

pub lines_joined : (file : List ℕ) (ls : List (List ℕ)) → file ≡ join_lines ls → Each IsText ls → its_lines file ≡ ls
lines_joined = cut_as

-- an L line put in anywhere, or left out
pub note_put_in : (before : List (List ℕ)) (note : List ℕ) (after : List (List ℕ)) → get_or note 0 0 ≡ code "L" → without_l (before ++ (note ∷ after)) ≡ without_l (before ++ after)
unfolding without_l
note_put_in [] note after e = rw e
note_put_in (l ∷ before) note after e = rw (note_put_in before note after e)

-- document 01's file and the same with notes before and after its G line, by either check; and without a G line, by the usual one
pub five_and_noted : (needs : Seal) → ButForNotes needs five_lines (saying 5 true) noted_five (saying 9 true)
five_and_noted = worked.five_pair

pub four_and_noted : ButForNotes seal.Usual four_lines (saying 4 false) noted_four (saying 6 false)
four_and_noted = worked.four_pair

-- a merged file and each of its copies
module _ (first second file : List ℕ) (w : Makes first second file) (copy : List ℕ) (is : (copy ≡ first) ⊎ (copy ≡ second)) (f g : Flight)
    (says_copy : verdict seal.Strict copy None ≡ says f) (says_file : verdict seal.Strict file None ≡ says g) where
  pub merged_but_for_notes : ButForNotes seal.Strict copy f file g
  merged_but_for_notes = record { room = None; room' = None; accepted = says_copy; accepted_too = says_file; same = by is }
    where
      by : (copy ≡ first) ⊎ (copy ≡ second) → without_l (its_lines file) ≡ without_l (its_lines copy)
      by (inl e) = rw e (merged_reads first second file w f g (rw e at says_copy) says_file).unnoted
      by (inr e) = rw e (merged_reads_second first second file w f g (rw e at says_copy) says_file).unnoted

  pub merged_changes_nothing : NothingChanged copy f file g
  merged_changes_nothing = notes_change_nothing seal.Strict copy f file g merged_but_for_notes
