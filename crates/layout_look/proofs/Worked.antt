-- Looks worked out: into the two columns of document 01's example, and into entries that no line's reading gives. Assumes nothing.
use Prim.Native.Nat.{ℕ}
use Prim.Native.Char.{code}
use mathlib.Core.List.{List, [], ◌∷◌}
use mathlib.Core.Path.{◌≡◌, refl}
use lib.IntN.{pos}
use lib.ListN.{replicate, take}
use Rattle.rules.specs.Choice.{bytes}
use Rattle.rules.specs.Layouts.{unused}
use Rattle.rules.specs.Listed.{packed_of}
use Rattle.rules.specs.Looks.{look_said, look_text, look_number}
use Rattle.rules.specs.Refusals.{says, refuses}
use Rattle.rules.specs.declared.Entry.{Entry}
use Rattle.rules.specs.declared.Layout.{Layout}
use Rattle.rules.proofs.Computed.{everything}

-- the B line of the example
unfoldable pub fix_line : List ℕ
unfolding bytes
fix_line = bytes "B1200005130000N00015000WA001000012001208"

-- so many entries, of which the first two are these
abbrev pub entries_with : ℕ → Entry → Entry → Layout
entries_with n a b = record { count = n; entries = a ∷ b ∷ replicate 11 unused }

abbrev pub column : ℕ → ℕ → List ℕ → Entry
column a e name = record { first = a; last = e; code = packed_of name }

abbrev pub fxa : List ℕ
fxa = code "F" ∷ code "X" ∷ code "A" ∷ []

abbrev pub siu : List ℕ
siu = code "S" ∷ code "I" ∷ code "U" ∷ []

-- FXA from 36 to 38, SIU from 39 to 40
abbrev pub two : Layout
two = entries_with 2 (column 36 38 fxa) (column 39 40 siu)

pub siu_stands : look_said fix_line two siu ≡ says (record { first = 39; last = 40 })
unfolding everything fix_line
siu_stands = refl

pub siu_text : look_text fix_line (look_said fix_line two siu) ≡ code "0" ∷ code "8" ∷ []
unfolding everything fix_line
siu_text = refl

pub fxa_number : look_number fix_line two fxa ≡ says (record { value = pos 12 })
unfolding everything fix_line
fxa_number = refl

-- SIX begins like SIU
pub six_absent : look_said fix_line two (code "S" ∷ code "I" ∷ code "X" ∷ []) ≡ refuses 19 0 0
unfolding everything fix_line
six_absent = refl

-- a column over the letter B is no number
pub letters_no_number : look_number fix_line (entries_with 2 (column 1 3 fxa) (column 39 40 siu)) fxa ≡ refuses 20 0 0
unfolding everything fix_line
letters_no_number = refl

-- each of these is 17, whichever code is asked for
pub over_13 : look_said fix_line (entries_with 14 (column 36 38 fxa) (column 39 40 siu)) fxa ≡ refuses 17 0 0
unfolding everything fix_line
over_13 = refl

pub code_twice : look_said fix_line (entries_with 2 (column 36 38 fxa) (column 39 40 fxa)) siu ≡ refuses 17 0 0
unfolding everything fix_line
code_twice = refl

pub first_0 : look_said fix_line (entries_with 2 (column 0 38 fxa) (column 39 40 siu)) siu ≡ refuses 17 0 0
unfolding everything fix_line
first_0 = refl

pub last_past : look_said (take 39 fix_line) two fxa ≡ refuses 17 0 0
unfolding everything fix_line
last_past = refl

pub last_before_first : look_said fix_line (entries_with 2 (column 36 35 fxa) (column 39 40 siu)) siu ≡ refuses 17 0 0
unfolding everything fix_line
last_before_first = refl

-- and what stands behind the last entry is not looked at
pub one_counts : look_said fix_line (entries_with 1 (column 36 38 fxa) (column 0 0 siu)) siu ≡ refuses 19 0 0
unfolding everything fix_line
one_counts = refl
