-- Document 02, 'A summary beside each flight': the twelve numbers of some fixes, and the list of numbers that is kept beside a flight.
use Rattle.std.specs.Prelude.{ℕ, zero, suc, ◌+◌, ◌*◌, ◌-◌, ◌/◌, cond, List, [], ◌∷◌, ◌++◌, map, leb, ℤ, pos, length, get_or, take, drop, None}
use Rattle.rules.specs.Choice.{need, part}
use Rattle.rules.specs.Families.{count_of}
use Rattle.rules.specs.Files.{verdict}
use Rattle.rules.specs.Fixes.{plain_time, plain_lat, plain_lon}
use Rattle.rules.specs.Refusals.{Said, says, refuses, no, and_then}
use Rattle.rules.specs.declared.Family.TheVariants as family
use Rattle.rules.specs.declared.Flight.{Flight}
use Rattle.rules.specs.declared.Reason.TheVariants.{BadValue, NoRoom}
use Rattle.track_rules.specs.Track.{zero_record}
use Rattle.track_rules.specs.Track.{track_seal, track_of}
use Rattle.track_rules.specs.declared.Record.{Record}
use Rattle.summary_span.specs.Extremes.{greatest, least}
use Rattle.summary_fix.specs.Spots.{signed_count, is_marked}

-- ---- the numbers of some fixes

-- all zero where there is none
abbrev pub first : List Record → Record
first rs = get_or rs 0 zero_record

abbrev pub last : List Record → Record
last rs = get_or rs (length rs - 1) zero_record

-- "Only fixes marked A count for position, all for altitude"
abbrev pub heights : List Record → List ℤ
heights rs = map (λ (r : Record). r.fix.pressure.metres) rs

abbrev pub marked : List Record → List Record
marked [] = []
marked (r ∷ rs) = cond (is_marked r.fix) (r ∷ marked rs) (marked rs)

abbrev pub latitudes : List Record → List ℤ
latitudes rs = map (λ (r : Record). signed_count (plain_lat r.fix)) (marked rs)

abbrev pub longitudes : List Record → List ℤ
longitudes rs = map (λ (r : Record). signed_count (plain_lon r.fix)) (marked rs)

-- "1 or 0"
abbrev pub one_if_any : List Record → ℤ
one_if_any [] = pos 0
one_if_any (r ∷ rs) = pos 1

-- "number of fixes; day and plain seconds of the first, then of the last; highest and lowest pressure altitude; 1 or 0 for "has a position"; least and greatest latitude, least and
-- greatest longitude as signed plain counts (south and west negative)"; "a number with nothing to tell is 0"
unfoldable pub told : List Record → List ℤ
told rs =
    pos (length rs)
    ∷ pos (first rs).day ∷ pos (plain_time (first rs).fix)
    ∷ pos (last rs).day ∷ pos (plain_time (last rs).fix)
    ∷ greatest (heights rs) ∷ least (heights rs)
    ∷ one_if_any (marked rs)
    ∷ least (latitudes rs) ∷ greatest (latitudes rs) ∷ least (longitudes rs) ∷ greatest (longitudes rs) ∷ []

-- ---- the list of numbers

-- "each run of 256 B lines, the last run perhaps shorter": how many runs n fixes have, and the fixes of run k, runs counted from 0
abbrev pub runs_of : ℕ → ℕ
runs_of n = (n + 255) / 256

abbrev pub run_at : ℕ → List Record → List Record
run_at k rs = take 256 (drop (256 * k) rs)

-- the numbers of n runs one after the other
unfoldable pub told_runs : ℕ → List Record → List ℤ
told_runs zero rs = []
told_runs (suc n) rs = told (take 256 rs) ++ told_runs n (drop 256 rs)

-- how many numbers there are with n runs: "12 for the whole flight and then 12 for each run"
abbrev pub size_of : ℕ → ℕ
size_of n = 12 * (1 + n)

-- "An update told an old number of fixes works out from the file only the whole, the run that was last if not full, and new runs; earlier runs keep their lent numbers." "Numbers past
-- the last run stay."
unfoldable pub updated : ℕ → List Record → List ℤ → List ℤ
updated old rs list =
    told rs
    ++ (part 12 (size_of (old / 256)) list
    ++ (told_runs (runs_of (length rs) - old / 256) (drop (256 * (old / 256)) rs)
    ++ drop (size_of (runs_of (length rs))) list))

-- ---- what is said of a file

-- the B lines of a flight
abbrev pub fixes_in : Flight → ℕ
fixes_in f = count_of family.B f.counts

-- "Refusals: the file's own, 17 if the old number exceeds the new, then 18 if the list is short": by the usual check, as the track, for a list of `room` numbers. "No table is lent
-- here or in CR 6, 10 and 12"
unfoldable pub flight_summed : List ℕ → ℕ → ℕ → Said Flight
flight_summed file old room =
    and_then (verdict track_seal file None) λ f.
    need (leb old (fixes_in f)) (no BadValue 0) λ _.
    need (leb (size_of (runs_of (fixes_in f))) room) (no NoRoom 0) λ _.
    says f

-- how many runs there are
abbrev pub summary_said : List ℕ → ℕ → ℕ → Said ℕ
summary_said file old room = and_then (flight_summed file old room) λ f. says (runs_of (fixes_in f))

-- "the list is then unchanged"
abbrev pub updated_by : List ℕ → ℕ → List ℤ → Said Flight → List ℤ
updated_by file old list (says f) = updated old (track_of file f.layouts.b) list
updated_by file old list (refuses n l b) = list

abbrev pub summary_after : List ℕ → ℕ → List ℤ → List ℤ
summary_after file old list = updated_by file old list (flight_summed file old (length list))
