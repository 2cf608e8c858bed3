-- Document 02, request 9: a fix and its fields. The bytes of a B line before its columns spell plain counts; the columns TDS, LAD and LOD of its I layout make time, latitude and
-- longitude finer.
use Rattle.std.specs.Prelude.{ℕ, ◌+◌, ◌-◌, ◌*◌, ◌/◌, ◌%◌, ◌^◌, cond, List, eqb}
use Rattle.rules.specs.Choice.{given, part, byte}
use Rattle.rules.specs.Numbers.{number_at}
use Rattle.rules.specs.Listed.{tds, lad, lod}
use Rattle.rules.specs.Layouts.{look}
use Rattle.rules.specs.declared.Layout.{Layout}
use Rattle.rules.specs.declared.Position.{Position}
use Rattle.rules.specs.declared.Reach.{Reach}
use Rattle.rules.specs.declared.Finer.{Finer}
use Rattle.rules.specs.declared.FinePosition.{FinePosition}
use Rattle.rules.specs.declared.FixFields.{FixFields}
use Rattle.rules.specs.declared.Fix.{Fix}

-- "none without the column"
abbrev pub no_reach : Reach
no_reach = record { first = 0; last = 0 }

-- where the column of a code stands
unfoldable pub reach_of : Layout → ℕ → Reach
reach_of layout x = given (look layout x) no_reach λ s. record { first = s.first; last = s.last }

-- "the digits of LAD, LOD or TDS": where a layout for B lines has them
unfoldable pub finer_of : Layout → Finer
finer_of layout = record { time = reach_of layout tds; lat = reach_of layout lad; lon = reach_of layout lod }

-- "a number of extra decimals": one for each digit of the column; "none without the column"
unfoldable pub decimals_of : Reach → ℕ
decimals_of r = cond (eqb r.first 0) 0 (r.last + 1 - r.first)

-- the number that the column's digits spell; 0 without the column. The column begins at byte `first` of a line.
unfoldable pub digits_at : List ℕ → Reach → ℕ
digits_at l r = given (number_at (part (byte r.first) r.last l) 0 (decimals_of r)) 0 λ v. v

-- "the old count times ten for each digit, plus the digits of LAD, LOD or TDS"
unfoldable pub refined : ℕ → List ℕ → Reach → ℕ
refined count l r = count * 10 ^ decimals_of r + digits_at l r

unfoldable pub fine_position : Position → List ℕ → Reach → FinePosition
fine_position p l r = record { count = refined p.count l r; letter = p.letter; decimals = decimals_of r }

-- "Latitude, longitude and time in the fix record each become a count with a number of extra decimals": what the reading of a line gives of its fields
unfoldable pub fix_of : List ℕ → Finer → FixFields → Fix
fix_of l fine f =
    record {
      time = record { count = refined f.time l fine.time; decimals = decimals_of fine.time };
      lat = fine_position f.lat l fine.lat;
      lon = fine_position f.lon l fine.lon;
      validity = f.validity;
      pressure = f.pressure;
      gnss = f.gnss;
    }

-- "the count without the extra digits"
unfoldable pub plain : ℕ → ℕ → ℕ
plain count decimals = count / 10 ^ decimals

abbrev pub plain_time : Fix → ℕ
plain_time f = plain f.time.count f.time.decimals

unfoldable pub plain_position : FinePosition → Position
plain_position p = record { count = plain p.count p.decimals; letter = p.letter }

abbrev pub plain_lat : Fix → Position
plain_lat f = plain_position f.lat

abbrev pub plain_lon : Fix → Position
plain_lon f = plain_position f.lon

-- "The B writer splits the count again": what a writer has to spell of the fix before its columns
unfoldable pub fields_of : Fix → FixFields
fields_of f =
    record {
      time = plain_time f;
      lat = plain_lat f;
      lon = plain_lon f;
      validity = f.validity;
      pressure = f.pressure;
      gnss = f.gnss;
    }

-- and what is left of a count: its last digits
unfoldable pub extra_digits : ℕ → ℕ → ℕ
extra_digits count decimals = count % 10 ^ decimals
