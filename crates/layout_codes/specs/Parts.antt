-- What a row of the table says, and the promises on codes that the rules do not name.
use Rattle.std.specs.Prelude.{ℕ, Bool, ◌&&◌, ◌||◌, List, ◌≡◌, eqb, Option}
use Rattle.rules.specs.Listed.{packed, packed_of, listed_number, width_fits, lad, lod, keeps_limit}
use Rattle.rules.specs.declared.AtLimit.{AtLimit}
use Rattle.rules.specs.declared.Listed.{Listed}
use Rattle.layout_codes.specs.declared.Row.{Row}

-- a row of the table: code, least width, most width, sign flag
abbrev pub in_row : Row → Listed
in_row r = record { code = packed_of r.0; least = r.1; most = r.2; sign = r.3 }

-- three characters as one number
abbrev pub CodePacked : ℕ → ℕ → ℕ → ℕ → Type 0
CodePacked a b c r = r ≡ packed a b c

-- a listed code's number
abbrev pub ListedFound : ℕ → Option ℕ → Type 0
ListedFound x r = r ≡ listed_number x

-- whether a column of a code may have a width
abbrev pub WidthTest : ℕ → ℕ → Bool → Type 0
WidthTest x width r = r ≡ width_fits x width

-- a code whose column makes a coordinate finer that stands at its limit
abbrev pub is_topped : AtLimit → ℕ → Bool
is_topped at x = (at.lat && eqb x lad) || (at.lon && eqb x lod)

-- the text of a column against the rule of its code, in a line that has these coordinates at their limits
abbrev pub LimitTest : AtLimit → ℕ → List ℕ → Bool → Type 0
LimitTest at x t r = r ≡ keeps_limit at x t
