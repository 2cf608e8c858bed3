-- The track and the summary of a file, and of one with added columns: what each record and each number has in common with the old one.
use Rattle.std.specs.Prelude.{ℕ, ◌+◌, ◌<◌, List, ◌≡◌, ℤ, length, get_or, drop}
use Rattle.rules.specs.declared.Flight.{Flight}
use Rattle.rules.specs.declared.Layout.{Layout}
use Rattle.grammar_wider.specs.Before.{FixAsBefore}
use Rattle.track_rules.specs.Track.{zero_record, track_of, track_said}
use Rattle.track_rules.specs.declared.Record.{Record}
use Rattle.summary_reckon.specs.Summary.{summary_said, summary_after, fixes_in}

-- One record of a track, and the one in its place where so many layout lines were put in before it: its line is as many lines further on, its day is the old one, and its fix reads as
-- before, by the old layout of B lines and the new one.
pub record RecordAsBefore (old new : Layout) (more : ℕ) (r r' : Record) : Type 0 where
  pub line : r'.line ≡ r.line + more
  pub day : r'.day ≡ r.day
  pub fix : FixAsBefore old new r.fix r'.fix

-- a list with n records of a track in front, and one with as many of the other track: as long, record by record as before, and the same behind them
pub record ListAsBefore (old new : Layout) (more n : ℕ) (after after' : List Record) : Type 0 where
  pub long : length after' ≡ length after
  pub records : (i : ℕ) → i < n → RecordAsBefore old new more (get_or after i zero_record) (get_or after' i zero_record)
  pub rest : drop n after' ≡ drop n after

-- the tracks of two files, of which f and f' are said: for a list of `room` records the same is answered, a count or that the list is short; they are as long, one record for each B line,
-- and record by record as before
pub record TrackAsBefore (file file' : List ℕ) (f f' : Flight) (more : ℕ) : Type 0 where
  pub said : (room : ℕ) → track_said file' room ≡ track_said file room
  pub count : length (track_of file f.layouts.b) ≡ fixes_in f
  pub count' : length (track_of file' f'.layouts.b) ≡ fixes_in f
  pub records : (n : ℕ) → n < fixes_in f
      → RecordAsBefore f.layouts.b f'.layouts.b more (get_or (track_of file f.layouts.b) n zero_record) (get_or (track_of file' f'.layouts.b) n zero_record)

-- the summaries of two files: whatever old number and whatever list, the same is answered, and every number of the list is afterwards the same
pub record SummaryAsBefore (file file' : List ℕ) : Type 0 where
  pub said : (old room : ℕ) → summary_said file' old room ≡ summary_said file old room
  pub after : (old : ℕ) (list : List ℤ) → summary_after file' old list ≡ summary_after file old list
