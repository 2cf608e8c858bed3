-- Document 02, 'The whole track for the map': the records of a file's fixes.
use Rattle.std.specs.Prelude.{ℕ, List, [], ◌∷◌, ◌++◌, leb, pos, length, drop, None}
use Rattle.rules.specs.Choice.{need, on}
use Rattle.rules.specs.Families.{count_of}
use Rattle.rules.specs.Files.{verdict}
use Rattle.rules.specs.Reads.{fix_said}
use Rattle.rules.specs.Refusals.{Said, says, refuses, no, and_then}
use Rattle.rules.specs.Split.{Lines, end, broken, line, lines_of}
use Rattle.rules.specs.Walk.{Walk, set_out, walked}
use Rattle.rules.specs.declared.Family.TheVariants as family
use Rattle.rules.specs.declared.Fix.{Fix}
use Rattle.rules.specs.declared.Flight.{Flight}
use Rattle.rules.specs.declared.Layout.{Layout}
use Rattle.rules.specs.declared.Reason.TheVariants.{NoRoom}
use Rattle.rules.specs.declared.Seal.{Seal}
use Rattle.rules.specs.declared.Seal.TheVariants as seal
use Rattle.track_rules.specs.declared.Record.{Record}

-- the usual check, which a file passes whose track is asked for: "The usual check now accepts a file with no G"; of the strict one: "the badge list and the merge of CR 3
-- must now ask for it by name"
abbrev pub track_seal : Seal
track_seal = seal.Usual

-- "fix records: line number, day number counted from 0, seconds, position, validity, both altitudes": of the line that a walk has passed last
abbrev pub record_of : Walk → Fix → Record
record_of w f = record { line = w.lines; day = w.day; fix = f }

-- all zero
abbrev pub zero_record : Record
zero_record = record {
  line = 0;
  day = 0;
  fix = record {
    time = record { count = 0; decimals = 0 };
    lat = record { count = 0; letter = 0; decimals = 0 };
    lon = record { count = 0; letter = 0; decimals = 0 };
    validity = 0;
    pressure = record { metres = pos 0 };
    gnss = record { metres = pos 0 };
  };
}

-- "its values after line and day those of the single fix reading": one record where the reading gives a fix, none for a line whose reading is refused
abbrev pub records_of : Walk → Said Fix → List Record
records_of w (says f) = record_of w f ∷ []
records_of w (refuses n l b) = []

-- "Record n is the nth B line's": the records of the lines that are left, behind a walk
unfoldable pub track_from : Layout → Walk → Lines → List Record
track_from layout w end = []
track_from layout w (broken n) = []
track_from layout w (line t ls) = on (walked t w) λ here. records_of here (fix_said t layout) ++ track_from layout here ls

-- "all fixes of an accepted file", by its I layout
abbrev pub track_of : List ℕ → Layout → List Record
track_of file layout = track_from layout set_out (lines_of file)

-- "Refusals: the file's own, then 18 if the list is short": what the file says, for a list of `room` records. "No table is lent here or in CR 6"
unfoldable pub flight_tracked : List ℕ → ℕ → Said Flight
flight_tracked file room =
    and_then (verdict track_seal file None) λ f.
    need (leb (count_of family.B f.counts) room) (no NoRoom 0) λ _.
    says f

-- "the count is the number of B lines"
abbrev pub track_said : List ℕ → ℕ → Said ℕ
track_said file room = and_then (flight_tracked file room) λ f. says (count_of family.B f.counts)

-- the records that are stored; none where refused
abbrev pub records_in : List ℕ → Said Flight → List Record
records_in file (says f) = track_of file f.layouts.b
records_in file (refuses n l b) = []

-- the records put over the front of a list: "records beyond stay as lent"
abbrev pub laid_over : List Record → List Record → List Record
laid_over records list = records ++ drop (length records) list

-- "with no record changed" where refused
abbrev pub list_after : List ℕ → List Record → List Record
list_after file list = laid_over (records_in file (flight_tracked file (length list))) list
