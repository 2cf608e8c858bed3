-- The marked examples 1 to 12 of document 01, as document 02 changed them, in one table of whole lines and answers, computed. Assumes nothing.
use Rattle.std.specs.Prelude.{Some}
use Prim.Native.Nat.{ℕ}
use Prim.Native.String.{String}
use mathlib.Core.Bool.{true}
use mathlib.Core.List.{List, [], ◌∷◌}
use mathlib.Core.Path.{◌≡◌, refl}
use lib.IntN.{ℤ, pos, neg_ℤ}
use Rattle.rules.specs.Choice.{bytes}
use Rattle.rules.specs.Refusals.{Said, says, refuses, and_then}
use Rattle.rules.specs.Layouts.{empty_layout, line_length}
use Rattle.rules.specs.Files.{verdict}
use Rattle.rules.specs.Reads.{fix_said, date_said, layout_said}
use Rattle.rules.specs.declared.Family.TheVariants as family
use Rattle.rules.proofs.Computed.{everything, file_of, agree, Example, hold}
use Rattle.rules.specs.declared.Seal.TheVariants as seal

-- what is asked of a B line, of line 2, of an I line and of a file
unfoldable pub latitude : List ℕ → Said ℤ
latitude l = and_then (fix_said l empty_layout) λ f. says (pos f.lat.count)

unfoldable pub longitude : List ℕ → Said ℤ
longitude l = and_then (fix_said l empty_layout) λ f. says (pos f.lon.count)

unfoldable pub seconds : List ℕ → Said ℤ
seconds l = and_then (fix_said l empty_layout) λ f. says (pos f.time.count)

unfoldable pub pressure : List ℕ → Said ℤ
pressure l = and_then (fix_said l empty_layout) λ f. says f.pressure.metres

unfoldable pub year : List ℕ → Said ℤ
year l = and_then (date_said l) λ d. says (pos d.year)

unfoldable pub b_length : List ℕ → Said ℤ
unfolding line_length
b_length l = and_then (layout_said family.B l) λ i. says (pos (line_length 36 i))

unfoldable pub lines : List ℕ → Said ℤ
lines f = and_then (verdict seal.Strict f (Some 16)) λ a. says (pos a.lines)

abbrev ask : (List ℕ → Said ℤ) → String → Said ℤ → Example
unfolding bytes
ask asked given answer = record { given = bytes given; asked = asked; answer = answer }

-- a file with B lines at two times
abbrev two_times : String → String → Said ℤ → Example
unfolding file_of
two_times first second answer = record {
  given = file_of ("AXYZ001" ∷ "HFDTE150724" ∷ first ∷ second ∷ "GABC" ∷ []);
  asked = lines;
  answer = answer;
}

pub examples : List Example
unfolding bytes file_of
examples =
    -- 1. 9000000N is 5,400,000; 9000001N is 23.
    ask latitude "B1200009000000N00000000EA0000000000" (says (pos 5400000)) ∷
    ask latitude "B1200009000001N00000000EA0000000000" (refuses 23 0 8) ∷
    -- 2. 18000000E is 10,800,000.
    ask longitude "B1200000000000N18000000EA0000000000" (says (pos 10800000)) ∷
    -- 3. 4560000N is 23.
    ask latitude "B1200004560000N00000000EA0000000000" (refuses 23 0 8) ∷
    -- 4. -0012 is -12; -0000 is 24.
    ask pressure "B1200000000000N00000000EA-001200000" (says (neg_ℤ (pos 12))) ∷
    ask pressure "B1200000000000N00000000EA-000000000" (refuses 24 0 26) ∷
    -- 5. 235959 is 86,399; 235960 is 86,400, 235961 is 22.
    ask seconds "B2359590000000N00000000EA0000000000" (says (pos 86399)) ∷
    ask seconds "B2359600000000N00000000EA0000000000" (says (pos 86400)) ∷
    ask seconds "B2359610000000N00000000EA0000000000" (refuses 22 0 2) ∷
    -- 6. 290224 and 290200 are dates; 290223 is not: "line 2 with 290223 is 25".
    ask year "HFDTE290224" (says (pos 2024)) ∷
    ask year "HFDTE290200" (says (pos 2000)) ∷
    ask year "HFDTE290223" (refuses 25 0 6) ∷
    -- 7. I00 gives B 35.
    ask b_length "I00" (says (pos 35)) ∷
    -- 8. I023638FXA3940SIU gives B 40.
    ask b_length "I023638FXA3940SIU" (says (pos 40)) ∷
    -- 9. I023638FXA4041SIU is 10 at byte 11.
    ask b_length "I023638FXA4041SIU" (refuses 10 0 11) ∷
    -- 10. I013639FXA is 12 at byte 4.
    ask b_length "I013639FXA" (refuses 12 0 4) ∷
    -- 11. I023638ZZZ3940ZZZ is 11 at byte 11.
    ask b_length "I023638ZZZ3940ZZZ" (refuses 11 0 11) ∷
    -- 12. 235958 then 000001 passes; 120000 then 000000 is 14; 120001 then 000000 passes.
    two_times "B2359585130000N00015000WA0010000120" "B0000015130000N00015000WA0010000120" (says (pos 5)) ∷
    two_times "B1200005130000N00015000WA0010000120" "B0000005130000N00015000WA0010000120" (refuses 14 4 2) ∷
    two_times "B1200015130000N00015000WA0010000120" "B0000005130000N00015000WA0010000120" (says (pos 5)) ∷
    []

pub marked : hold examples ≡ true
unfolding everything file_of agree hold examples latitude longitude seconds pressure year b_length lines
marked = refl
