-- A fix made of any line, any columns of finer digits and any fields: `fix_of` of the rules, where the counts and the numbers of digits are within their limits, so that no number
-- wraps. The promises of this crate.
use Rattle.std.specs.Prelude.{ℕ, Bool, ◌&&◌, cond, List, ◌≡◌, eqb, leb}
use Rattle.rules.specs.Choice.{need}
use Rattle.rules.specs.Fields.{most_latitude, most_longitude}
use Rattle.rules.specs.Fixes.{finer_of, decimals_of, refined}
use Rattle.rules.specs.declared.Entry.{Entry}
use Rattle.rules.specs.declared.FinePosition.{FinePosition}
use Rattle.rules.specs.declared.FineTime.{FineTime}
use Rattle.rules.specs.declared.Finer.{Finer}
use Rattle.rules.specs.declared.Fix.{Fix}
use Rattle.rules.specs.declared.FixFields.{FixFields}
use Rattle.rules.specs.declared.Layout.{Layout}
use Rattle.rules.specs.declared.Position.{Position}
use Rattle.rules.specs.declared.Reach.{Reach}

-- where a code's column stands, by an entry before those that told it: the entry's own place, where it counts and has the code
abbrev pub reached_by : Reach → Bool → Entry → ℕ → Reach
reached_by was counts e x = cond (counts && eqb e.code x) (record { first = e.first; last = e.last }) was

-- a count of `most` at most with a column of at most so many digits is refined; any other is 0
unfoldable pub within : ℕ → ℕ → ℕ → List ℕ → Reach → ℕ
within most digits count l r =
    need (leb count most) 0 λ _.
    need (leb (decimals_of r) digits) 0 λ _.
    refined count l r

-- seconds of the day, and three digits
unfoldable pub time_within : ℕ → List ℕ → Reach → FineTime
time_within t l r = record { count = within 86400 3 t l r; decimals = decimals_of r }

-- a coordinate by its limit, and four digits
unfoldable pub position_within : ℕ → Position → List ℕ → Reach → FinePosition
position_within most p l r = record { count = within most 4 p.count l r; letter = p.letter; decimals = decimals_of r }

unfoldable pub fix_within : List ℕ → Finer → FixFields → Fix
fix_within l fine f =
    record {
      time = time_within f.time l fine.time;
      lat = position_within most_latitude f.lat l fine.lat;
      lon = position_within most_longitude f.lon l fine.lon;
      validity = f.validity;
      pressure = f.pressure;
      gnss = f.gnss;
    }

-- ---- the promises

abbrev pub FinerGiven : Layout → Finer → Type 0
FinerGiven layout r = r ≡ finer_of layout

abbrev pub DecimalsGiven : Reach → ℕ → Type 0
DecimalsGiven reach r = r ≡ decimals_of reach

abbrev pub FixMade : List ℕ → Finer → FixFields → Fix → Type 0
FixMade l fine f r = r ≡ fix_within l fine f
