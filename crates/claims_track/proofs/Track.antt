-- The whole track for the map, what is claimed. Each claim is a line from the room that proves it; its words stand in specs/Mapped. Assumes nothing.
--
-- The claims are about every answer that the contract of `track::track` allows (promise FileTracked), and by `only_file_tracked` that is one. It is told by `track_said`: the file's own
-- refusal, then 18, or the count; the list afterwards is `list_after`. The file's refusals and its lines are the grammar's (grammar: `refused_first`, `accepted_as`).
use Rattle.rules.specs.declared.Refusal.{Refusal}
use Rattle.std.specs.Prelude.{None, Result, Some}
use Prim.Native.Nat.{ℕ, ◌≤◌, ◌<◌}
use mathlib.Core.List.{List}
use mathlib.Core.Logic.{◌⊎◌, ◌↔◌}
use mathlib.Core.Path.{◌≡◌}
use lib.ListN.{length, get_or, take, drop}
use Rattle.rules.specs.Files.{verdict, table_after}
use Rattle.rules.specs.Reads.{fix_said}
use Rattle.rules.specs.Refusals.{says, refuses, result_told}
use Rattle.rules.specs.Split.{bounds_of, line_text}
use Rattle.rules.specs.declared.Flight.{Flight}
use Rattle.grammar.specs.Faults.{Refused}
use Rattle.grammar.specs.Grammar.{Meets, lines_in}
use Rattle.track_rules.specs.Track.{zero_record}
use Rattle.track_rules.specs.Track.{track_seal}
use Rattle.track_rules.specs.declared.Record.{Record}
use Rattle.track.specs.Tracks.{FileTracked}
use Rattle.claims_track.specs.Mapped.{BLines, Short, IsRecord, Ordered, Reached}
use Rattle.claims_track.proofs.Answers as answers
use Rattle.claims_track.proofs.Whole as whole

module _ (file : List ℕ) (list : List Record) (r : Result ℕ Refusal) (after : List Record) (w : FileTracked file list r after) where
  -- "the count is the number of B lines": it is given exactly where the file meets the grammar and the list has room
  pub track_count : (n : ℕ) → (result_told r ≡ says n) ↔ ((m : Meets track_seal file) × (n ≡ BLines m) × (n ≤ length list))
  track_count = answers.told_counts file list r after w

  -- "Refusals: the file's own, then 18 if the list is short, with no record changed."
  pub track_refused_first : (n l b : ℕ) → (result_told r ≡ refuses n l b) ↔ (Refused track_seal file None n l b ⊎ Short file (length list) n l b)
  track_refused_first = answers.told_refuses file list r after w

  pub track_leaves : (n l b : ℕ) → result_told r ≡ refuses n l b → after ≡ list
  track_leaves = answers.refused_leaves file list r after w

  -- "No table is lent here or in CR 6 .., so 15 isn't met there."
  pub track_never_full : (n l b : ℕ) → result_told r ≡ refuses n l b → n ≡ 15 → ⊥
  track_never_full = answers.told_never_full file list r after w

  module _ (n : ℕ) (e : result_told r ≡ says n) where
    -- "Record n is the nth B line's, its values after line and day those of the single fix reading": of the lines that the grammar finds, by the layout of the file's I line
    pub track_records : (m : Meets track_seal file) (i : ℕ) → i < n → IsRecord m.layouts.b (lines_in m.parts) i (get_or after i zero_record)
    track_records = whole.records file list r after w n e

    -- "records beyond stay as lent"
    pub rest_stays : (length after ≡ length list) × (drop n after ≡ drop n list)
    rest_stays = whole.rest file list r after w n e

    -- days never fall, and within a day plain times never fall
    pub track_in_order : Ordered (take n after)
    track_in_order = whole.ordered file list r after w n e

    -- the line got by a record's number, in a table that the check filled, is the record's line, and by the layout that this check says it reads as the record's fix
    pub track_by_table : (m : Meets track_seal file) (table : List ℕ) (f : Flight) → verdict track_seal file (Some (length table)) ≡ says f → (i : ℕ)
        → (x : IsRecord m.layouts.b (lines_in m.parts) i (get_or after i zero_record))
        → (line_text file (bounds_of file (table_after track_seal file table) (get_or after i zero_record).line) ≡ x.line) × (fix_said x.line f.layouts.b ≡ says (get_or after i zero_record).fix)
    track_by_table = whole.by_table file list r after w n e

    -- and so is the line that as many steps of the reading place come to
    pub track_by_steps : (m : Meets track_seal file) (i : ℕ) (x : IsRecord m.layouts.b (lines_in m.parts) i (get_or after i zero_record))
        → Reached file 0 (get_or after i zero_record).line x.line
    track_by_steps = whole.by_steps file list r after w n e
