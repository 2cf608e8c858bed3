-- Document 02, 'A summary beside each flight': the words of what is demanded of a summary, said over the fixes and the lines of the file.
use Rattle.rules.specs.declared.Refusal.{Refusal}
use Rattle.std.specs.Prelude.{ℕ, ◌+◌, ◌-◌, ◌/◌, ◌≤◌, ◌<◌, List, [], ◌∷◌, ◌++◌, ◌≡◌, ℤ, pos, length, get_or, take, drop, replicate, Result}
use Prim.Native.Char.{code}
use Rattle.rules.specs.Choice.{part}
use Rattle.rules.specs.Fixes.{plain_time}
use Rattle.rules.specs.Refusals.{says, result_told}
use Rattle.grammar.specs.Coming.{IsTimed}
use Rattle.grammar.specs.Grammar.{Meets, lines_in}
use Rattle.track_rules.specs.Track.{zero_record}
use Rattle.track_rules.specs.Track.{track_seal}
use Rattle.track_rules.specs.declared.Record.{Record}
use Rattle.claims_track.specs.Mapped.{BLines, IsRecord}
use Rattle.summary_span.specs.Extremes.{Outmost, above, below}
use Rattle.summary_reckon.specs.Summary.{heights, marked, latitudes, longitudes, runs_of, run_at, size_of}
use Rattle.summary.specs.Summaries.{FileSummed}

-- ---- the answer

-- "17 if the old number exceeds the new": the file meets the grammar, and has fewer B lines; the refusal is 17, with no line and no byte
pub record Exceeds (file : List ℕ) (old n l b : ℕ) : Type 0 where
  pub number : n ≡ 17
  pub line : l ≡ 0
  pub byte : b ≡ 0
  pub meets : Meets track_seal file
  pub fewer : BLines meets < old

-- "then 18 if the list is short": it has as many, and the list has fewer numbers than twelve for the whole and twelve for each run
pub record Short (file : List ℕ) (old room n l b : ℕ) : Type 0 where
  pub number : n ≡ 18
  pub line : l ≡ 0
  pub byte : b ≡ 0
  pub meets : Meets track_seal file
  pub enough : old ≤ BLines meets
  pub less : room < size_of (runs_of (BLines meets))

-- ---- the twelve numbers of some fixes, by their meaning

-- number i, counted from 0
abbrev pub nth : ℕ → List ℤ → ℤ
nth i ns = get_or ns i (pos 0)

-- "day and plain seconds" of a fix
abbrev pub IsMoment : Record → ℤ → ℤ → Type 0
IsMoment r day seconds = (day ≡ pos r.day) × (seconds ≡ pos (plain_time r.fix))

-- the least and the greatest of some numbers
abbrev pub AreEnds : ℤ → ℤ → List ℤ → Type 0
AreEnds least greatest zs = Outmost below least zs × Outmost above greatest zs

-- the twelve numbers of some fixes: of each what it is where it has something to tell, and 0 where it has not
pub record Tells (rs : List Record) (ns : List ℤ) : Type 0 where
  pub twelve : length ns ≡ 12
  -- "number of fixes"
  pub count : nth 0 ns ≡ pos (length rs)
  -- "day and plain seconds of the first, then of the last"
  pub first : 0 < length rs → IsMoment (get_or rs 0 zero_record) (nth 1 ns) (nth 2 ns)
  pub last : 0 < length rs → IsMoment (get_or rs (length rs - 1) zero_record) (nth 3 ns) (nth 4 ns)
  -- "highest and lowest pressure altitude"; "all for altitude"
  pub altitudes : 0 < length rs → AreEnds (nth 6 ns) (nth 5 ns) (heights rs)
  -- "1 .. for 'has a position'; least and greatest latitude, least and greatest longitude"; "Only fixes marked A count for position"
  pub position : 0 < length (marked rs) → (nth 7 ns ≡ pos 1) × AreEnds (nth 8 ns) (nth 9 ns) (latitudes rs) × AreEnds (nth 10 ns) (nth 11 ns) (longitudes rs)
  -- "a number with nothing to tell is 0"
  pub no_position : marked rs ≡ [] → drop 7 ns ≡ replicate 5 (pos 0)
  pub no_fix : rs ≡ [] → ns ≡ replicate 12 (pos 0)

-- ---- the list afterwards

-- of a file that meets the grammar, and n runs: "12 for the whole flight and then 12 for each run of 256 B lines"
pub record Summarises {file : List ℕ} (m : Meets track_seal file) (old n : ℕ) (list after : List ℤ) : Type 0 where
  -- the fixes of the file: one for each B line, in their order, with its day
  pub fixes : List Record
  pub many : length fixes ≡ BLines m
  pub each : (i : ℕ) → i < length fixes → IsRecord m.layouts.b (lines_in m.parts) i (get_or fixes i zero_record)
  -- the whole flight
  pub whole : Tells fixes (take 12 after)
  -- "the run that was last if not full, and new runs": run k, runs counted from 0, is of the fixes from 256 * k on, 256 at most
  pub runs : (k : ℕ) → old / 256 ≤ k → k < n → Tells (run_at k fixes) (part (size_of k) (size_of (k + 1)) after)
  -- "earlier runs keep their lent numbers", "Numbers past the last run stay."
  pub earlier : part 12 (size_of (old / 256)) after ≡ part 12 (size_of (old / 256)) list
  pub beyond : drop (size_of n) after ≡ drop (size_of n) list
  pub long : length after ≡ length list

-- ---- a file that has grown

-- B lines put in anywhere among lines none of which is timed
pub data PutIn : List (List ℕ) → List (List ℕ) → Type 0 where
  done : PutIn [] []
  put : {l : List ℕ} {older newer : List (List ℕ)} → get_or l 0 0 ≡ code "B" → PutIn older newer → PutIn older (l ∷ newer)
  kept : {l : List ℕ} {older newer : List (List ℕ)} → (IsTimed l → ⊥) → PutIn older newer → PutIn (l ∷ older) (l ∷ newer)

-- "only B lines have since been put, after its last timed line": the lines up to some place, behind which the older file has no timed line, are the same, and behind it B lines were put in
pub record Grown (older newer : List (List ℕ)) : Type 0 where
  pub same : List (List ℕ)
  pub rest : List (List ℕ)
  pub more : List (List ℕ)
  pub before : older ≡ same ++ rest
  pub since : newer ≡ same ++ more
  pub puts : PutIn rest more

-- "earlier runs": those that are full in a file with so many fixes
abbrev pub earlier : ℕ → List ℤ → List ℤ
earlier old list = part 12 (size_of (old / 256)) list

-- "If those are of an older file with that many fixes": the earlier runs in the list are those of some summary that was made afresh of the older file
pub record Kept (older : List ℕ) (old : ℕ) (list : List ℤ) : Type 0 where
  pub lent : List ℤ
  pub answer : Result ℕ Refusal
  pub made : List ℤ
  pub afresh : FileSummed older 0 lent answer made
  pub runs : ℕ
  pub accepted : result_told answer ≡ says runs
  pub same : earlier old list ≡ earlier old made
