-- A step from fix to fix over the bytes of a file, by numbers alone: the place, the lines passed, the last time, the day, the length of a B line, and where its columns of finer digits
-- stand.
use Rattle.std.specs.Prelude.{ℕ, ◌+◌, ◌≤◌, ◌<◌, Bool, true, ◌&&◌, cond, List, ◌≡◌, eqb, leb, length, get_or, drop, Option, Some}
use Prim.Native.Char.{code}
use Rattle.rules.specs.Choice.{need, on, part}
use Rattle.rules.specs.Fields.{time_at, most_latitude, most_longitude}
use Rattle.rules.specs.Lines.{fix_fields}
use Rattle.rules.specs.Refusals.{Said, says, refuses}
use Rattle.rules.specs.Split.{Lines, end, broken, line, lines_of}
use Rattle.rules.specs.Walk.{Walk, time_on, walked_by}
use Rattle.rules.specs.declared.Finer.{Finer}
use Rattle.rules.specs.declared.FixFields.{FixFields}
use Rattle.check_front.specs.Front.{is_front}
use Rattle.line_finer.specs.Within.{fix_within}
use Rattle.track_rules.specs.Track.{record_of, zero_record}
use Rattle.track_rules.specs.declared.Progress.{Progress}
use Rattle.track_rules.specs.declared.FixStep.{FixStep}

-- the walk of a progress
abbrev pub walk_of : Progress → Walk
walk_of p = record { lines = p.lines; clock = p.clock; day = p.day }

-- behind a line with this time, if it has one, the next line standing behind `next` bytes
abbrev pub behind : Option ℕ → Progress → ℕ → Progress
behind o p next = record { at = next; lines = (walked_by o (walk_of p)).lines; clock = (walked_by o (walk_of p)).clock; day = (walked_by o (walk_of p)).day; size = p.size; finer = p.finer }

-- past the lines that are no B lines
unfoldable pub skipped : Lines → Progress → Progress
skipped end p = p
skipped (broken n) p = p
skipped (line t ls) p = cond (eqb (get_or t 0 0) (code "B")) p (skipped ls (behind (time_on t) p (p.at + length t + 2)))

abbrev pub no_fix : Progress → FixStep
no_fix p = record { found = zero_record; next = p }

-- a B line with these fields passed, the next line standing behind `next` bytes: "Time order, day number and the listing still use the plain counts." (document 02)
abbrev pub passed_by : List ℕ → Progress → ℕ → FixFields → FixStep
passed_by l p next f =
    record { found = record_of (walked_by (Some f.time) (walk_of p)) (fix_within l p.finer f); next = behind (Some f.time) p next }

abbrev pub passed_as : List ℕ → Progress → ℕ → Said FixFields → FixStep
passed_as l p next (says f) = passed_by l p next f
passed_as l p next (refuses n c b) = no_fix p

-- the B line at a place, by its length and its fields
unfoldable pub read_at : List ℕ → Progress → FixStep
read_at file p =
    need (leb (p.at + p.size + 2) (length file)) (no_fix p) λ _.
    need (eqb (get_or file p.at 0) (code "B")) (no_fix p) λ _.
    on (part p.at (p.at + p.size) file) λ l.
    passed_as l p (p.at + p.size + 2) (fix_fields l)

-- numbers that a file of allowed size can have
unfoldable pub is_few : ℕ → Progress → Bool
is_few len p = leb len 16777216 && leb p.lines 16777216 && leb p.day 16777216

pub record Few (len : ℕ) (p : Progress) : Type 0 where
  pub bytes : len ≤ 16777216
  pub lines : p.lines ≤ 16777216
  pub day : p.day ≤ 16777216

-- one line more and one day more can be counted
pub record Spare (p : Progress) : Type 0 where
  pub lines : p.lines < 4294967295
  pub day : p.day < 4294967295

-- a B line has no column of finer digits
pub record NoFiner (fine : Finer) : Type 0 where
  pub time : fine.time.first ≡ 0
  pub lat : fine.lat.first ≡ 0
  pub lon : fine.lon.first ≡ 0

-- counts within their limits
pub record Limited (f : FixFields) : Type 0 where
  pub time : f.time ≤ 86400
  pub lat : f.lat.count ≤ most_latitude
  pub lon : f.lon.count ≤ most_longitude

-- a B line without columns of finer digits stands just at the place
pub record AtFix (file : List ℕ) (p : Progress) : Type 0 where
  pub few : is_few (length file) p ≡ true
  pub room : p.at + p.size + 2 ≤ length file
  pub letter : get_or file p.at 0 ≡ code "B"
  pub plain : NoFiner p.finer

-- a time that is told is that of a line with a good front
abbrev pub FrontTimed : List ℕ → Option ℕ → Type 0
FrontTimed l r = (t : ℕ) → r ≡ Some t → (is_front l ≡ true) × (time_at l 1 ≡ Some t)

abbrev pub SwiftTimed : List ℕ → Progress → Option ℕ → Type 0
SwiftTimed file p r = (t : ℕ) → r ≡ Some t → AtFix file p × (is_front (part p.at (p.at + p.size) file) ≡ true) × (time_at (part p.at (p.at + p.size) file) 1 ≡ Some t)

-- the next fix: past the lines that are no B lines, and the B line read
unfoldable pub step_of : List ℕ → Progress → FixStep
step_of file p =
    need (is_few (length file) p) (no_fix p) λ _.
    on (skipped (lines_of (drop p.at file)) p) λ q.
    read_at file q

abbrev pub FixStepped : List ℕ → Progress → FixStep → Type 0
FixStepped file p r = r ≡ step_of file p
