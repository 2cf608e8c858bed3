-- The leap second of document 02 in each time field, in the time order, and written; worked out by hand. Computed. Assumes nothing.
use Prim.Native.Nat.{ℕ}
use Prim.Native.String.{String}
use mathlib.Core.Bool.{true}
use mathlib.Core.List.{List, [], ◌∷◌}
use mathlib.Core.Path.{◌≡◌, refl}
use lib.IntN.{ℤ, pos}
use Rattle.rules.specs.Choice.{bytes}
use Rattle.rules.specs.Refusals.{Said, says, refuses, and_then}
use Rattle.rules.specs.Fields.{time_text}
use Rattle.rules.specs.Layouts.{empty_layout}
use Rattle.rules.specs.Reads.{fix_said, extra_said, event_said, satellites_said, head_said}
use Rattle.rules.specs.Writes.{extra_text, is_extra, written}
use Rattle.rules.specs.declared.Extra.{Extra}
use Rattle.rules.specs.declared.Extra.TheVariants as extra
use Rattle.rules.proofs.Computed.{everything, file_of, agree, Example, hold}
use Rattle.rules.proofs.Damaged.{lines_in}

-- "Writers accept 86,400 and write 235960."
pub leap_text : time_text 86400 ≡ bytes "235960"
unfolding everything
leap_text = refl

abbrev told : Said ℕ → Said ℤ
told s = and_then s λ t. says (pos t)

abbrev read : (List ℕ → Said ℕ) → String → Said ℤ → Example
unfolding bytes
read said line answer = record { given = bytes line; asked = λ l. told (said l); answer = answer }

unfoldable pub of_fix : List ℕ → Said ℕ
of_fix l = and_then (fix_said l empty_layout) λ f. says f.time.count

unfoldable pub of_extra : Extra → List ℕ → Said ℕ
of_extra e l = extra_said e l empty_layout

unfoldable pub of_head : List ℕ → Said ℕ
of_head l = and_then (head_said l) λ h. says h.time

-- a K line written at such a time into an output of nine bytes: the place after it and its CR LF
unfoldable pub wrote_at : ℕ → List ℕ → Said ℕ
wrote_at t out = written (is_extra extra.K t [] empty_layout) (extra_text extra.K t []) 0 out

-- K lines at two times
abbrev order : String → String → Said ℤ → Example
unfolding file_of
order first second answer = record { given = file_of ("AXYZ001" ∷ "HFDTE311216" ∷ first ∷ second ∷ "GABC" ∷ []); asked = lines_in 16; answer = answer }

pub examples : List Example
unfolding bytes file_of
examples =
    -- "That time reads as 86,400": B, K, N, E and F lines, and the C head
    read of_fix "B2359605130000N00015000WA0010000120" (says (pos 86400)) ∷
    read (of_extra extra.K) "K235960" (says (pos 86400)) ∷
    read (of_extra extra.N) "N235960" (says (pos 86400)) ∷
    read event_said "E235960PEV" (says (pos 86400)) ∷
    read satellites_said "F235960" (says (pos 86400)) ∷
    read of_head "C311216235960000000000100" (says (pos 86400)) ∷
    -- "120060 stays refused"; so do the hour before, the minute before, the next second and midnight written in another way
    read of_fix "B1200605130000N00015000WA0010000120" (refuses 22 0 2) ∷
    read (of_extra extra.K) "K225960" (refuses 22 0 2) ∷
    read (of_extra extra.N) "N235860" (refuses 22 0 2) ∷
    read event_said "E235961PEV" (refuses 22 0 2) ∷
    read satellites_said "F240000" (refuses 22 0 2) ∷
    read of_head "C311216000060000000000100" (refuses 22 0 8) ∷
    -- "235960 then 000000 passes as the next day", a fall of 86,400; to 115959 it is one of 43,201, to 120000 one of exactly 43,200
    order "K235959" "K235960" (says (pos 5)) ∷
    order "K235960" "K000000" (says (pos 5)) ∷
    order "K235960" "K115959" (says (pos 5)) ∷
    order "K235960" "K120000" (refuses 14 4 2) ∷
    order "K235960" "K235959" (refuses 14 4 2) ∷
    -- 86,400 can be written and 86,401 cannot
    read (wrote_at 86400) "........." (says (pos 9)) ∷
    read (wrote_at 86401) "........." (refuses 17 0 0) ∷
    []

pub leap_second : hold examples ≡ true
unfolding everything file_of agree hold examples lines_in of_fix of_extra of_head wrote_at
leap_second = refl
