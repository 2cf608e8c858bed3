-- Document 02, request 9, in examples that are computed: B lines with the columns TDS, LAD and LOD, their counts and decimals, and which of them are refused at a limit. Assumes nothing.
use Prim.Native.Nat.{ℕ}
use Prim.Native.String.{String}
use mathlib.Core.Bool.{true}
use mathlib.Core.List.{List, [], ◌∷◌}
use mathlib.Core.Path.{◌≡◌, refl}
use lib.IntN.{ℤ, pos}
use Rattle.rules.specs.Choice.{bytes}
use Rattle.rules.specs.Refusals.{Said, says, refuses, and_then}
use Rattle.rules.specs.Fixes.{plain_time, plain_lat, plain_lon}
use Rattle.rules.specs.Reads.{fix_said, layout_said}
use Rattle.rules.specs.declared.Fix.{Fix}
use Rattle.rules.specs.declared.Family.TheVariants as family
use Rattle.rules.proofs.Computed.{everything, agree, Example, hold}

-- a B line by the layout that an I line tells
unfoldable pub fix_by : String → List ℕ → Said Fix
unfolding bytes
fix_by columns l = and_then (layout_said family.B (bytes columns)) λ layout. fix_said l layout

-- one number of it
abbrev pub of : (Fix → ℕ) → String → String → Said ℤ → Example
unfolding bytes
of number columns line answer = record { given = bytes line; asked = λ l. and_then (fix_by columns l) λ f. says (pos (number f)); answer = answer }

-- one digit for the time, four for each coordinate
abbrev pub all : String
all = "I033636TDS3740LAD4144LOD"

unfoldable pub examples : List Example
examples =
    -- "the old count times ten for each digit, plus the digits": 43,200 and 5; 3,090,000 and 1234; 15,000 and 0009
    of (λ f. f.time.count) all "B1200005130000N00015000WA0010000120512340009" (says (pos 432005)) ∷
    of (λ f. f.time.decimals) all "B1200005130000N00015000WA0010000120512340009" (says (pos 1)) ∷
    of (λ f. f.lat.count) all "B1200005130000N00015000WA0010000120512340009" (says (pos 30900001234)) ∷
    of (λ f. f.lat.decimals) all "B1200005130000N00015000WA0010000120512340009" (says (pos 4)) ∷
    of (λ f. f.lon.count) all "B1200005130000N00015000WA0010000120512340009" (says (pos 150000009)) ∷
    of (λ f. f.lon.decimals) all "B1200005130000N00015000WA0010000120512340009" (says (pos 4)) ∷
    -- "the count without the extra digits"
    of plain_time all "B1200005130000N00015000WA0010000120512340009" (says (pos 43200)) ∷
    of (λ f. (plain_lat f).count) all "B1200005130000N00015000WA0010000120512340009" (says (pos 3090000)) ∷
    of (λ f. (plain_lon f).count) all "B1200005130000N00015000WA0010000120512340009" (says (pos 15000)) ∷
    -- "none without the column"; another column refines nothing
    of (λ f. f.time.decimals) "I013638FXA" "B1200005130000N00015000WA0010000120512" (says (pos 0)) ∷
    of (λ f. f.time.count) "I013638FXA" "B1200005130000N00015000WA0010000120512" (says (pos 43200)) ∷
    -- three digits of a leap second
    of (λ f. f.time.count) "I013638TDS" "B2359605130000N00015000WA0010000120999" (says (pos 86400999)) ∷
    -- "LAD or LOD digits other than zeros break their column's rule where the plain count is already at its limit."
    of (λ f. f.lat.count) all "B1200009000000N00015000WA0010000120500000009" (says (pos 54000000000)) ∷
    of (λ f. f.lat.count) all "B1200009000000S00015000WA0010000120500010009" (refuses 13 0 37) ∷
    of (λ f. f.lat.count) all "B1200008959999N00015000WA0010000120599990009" (says (pos 53999999999)) ∷
    of (λ f. f.lon.count) all "B1200005130000N18000000WA0010000120512340000" (says (pos 108000000000)) ∷
    of (λ f. f.lon.count) all "B1200005130000N18000000EA0010000120512341000" (refuses 13 0 41) ∷
    -- the first of two such columns
    of (λ f. f.lon.count) "I023639LOD4041LAD" "B1200009000000N18000000EA0010000120000101" (refuses 13 0 36) ∷
    []

pub finer : hold examples ≡ true
unfolding everything agree hold examples fix_by
finer = refl
