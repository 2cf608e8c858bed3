-- What is said of a line where the layout is given as the text of the file's own I, J or M line.
use Rattle.rules.specs.declared.Refusal.{Refusal}
use Rattle.std.specs.Prelude.{ℕ, ◌-◌, cond, List, ◌≡◌, eqb, leb, length, get_or, None, Option, Result, Some}
use Rattle.rules.specs.Choice.{given, need}
use Rattle.rules.specs.Families.{family_of, layout_family_of}
use Rattle.rules.specs.Layouts.{LayoutTold, empty_layout, unused, presence_said}
use Rattle.rules.specs.Reads.{Reading, reading, answered, layout_said, fix_reading_told, extra_reading_told}
use Rattle.rules.specs.Refusals.{Said, says, refuses, no, refusal, and_then, result_told}
use Rattle.rules.specs.declared.Entry.{Entry}
use Rattle.rules.specs.declared.Extra.{Extra}
use Rattle.rules.specs.declared.ExtraReading.{ExtraReading}
use Rattle.rules.specs.declared.Family.{Family}
use Rattle.rules.specs.declared.Family.TheVariants as family
use Rattle.rules.specs.declared.Fix.{Fix}
use Rattle.rules.specs.declared.FixReading.{FixReading}
use Rattle.rules.specs.declared.Layout.{Layout}
use Rattle.rules.specs.declared.Presence.{Presence}
use Rattle.rules.specs.declared.Reason.TheVariants.{BadValue}

module _ {A : Type 0} where
  -- "17 BAD_VALUE: .. layout .. given is not allowed", whatever its line is refused for
  abbrev pub or_bad_value : Said A → Said A
  or_bad_value (says v) = says v
  or_bad_value (refuses n l b) = no BadValue 0

-- the layout of a family, from its line: "with NN 00, or no such line, B has 35 and K has 7", and N as K; no bytes stand for no such line
unfoldable pub layout_by : Family → List ℕ → Said Layout
layout_by f l = cond (eqb (length l) 0) (says empty_layout) (or_bad_value (layout_said f l))

-- a B line read, from the I line
unfoldable pub fix_by : List ℕ → List ℕ → Said (Reading Fix)
fix_by line l = and_then (layout_by family.B l) λ layout. reading family.B line layout

-- a K line read, from the J line, and an N line, from the M line
unfoldable pub extra_with : Extra → List ℕ → List ℕ → Said (Reading ℕ)
extra_with e line l = and_then (layout_by (family.Extra e) l) λ layout. reading (family.Extra e) line layout

-- K or N, by the first byte of such a line
abbrev pub extra_in : Family → Option Extra
extra_in family.B = None
extra_in (family.Extra e) = Some e

unfoldable pub extra_of : ℕ → Option Extra
extra_of b = given (family_of b) None extra_in

unfoldable pub extra_by : List ℕ → List ℕ → Said (Reading ℕ)
extra_by line l = given (extra_of (get_or line 0 0)) (no BadValue 0) λ e. extra_with e line l

-- column n of a layout, counted from 1
unfoldable pub entry_at : Layout → ℕ → Said Entry
entry_at layout n = need (leb n layout.count) (no BadValue 0) λ _. says (get_or layout.entries (n - 1) unused)

-- a column that was asked for, in the paper's terms

-- the layout that an I, a J or an M line tells, with the refusals of its reader
unfoldable pub told_layout : List ℕ → Said Layout
told_layout l = given (layout_family_of (get_or l 0 0)) (no BadValue 0) λ f. layout_said f l

-- column n of it: a number that no layout has, 0 or over 13, is 17 before the line is read
unfoldable pub entry_by : List ℕ → ℕ → Said Entry
entry_by l n =
    need (leb 1 n) (no BadValue 0) λ _.
    need (leb n 13) (no BadValue 0) λ _.
    and_then (told_layout l) λ layout. entry_at layout n

-- "which listed codes an I line carries"
unfoldable pub presence_by : List ℕ → Said Presence
presence_by l = and_then (layout_by family.B l) presence_said

-- ---- the promises of this crate's functions

abbrev pub LayoutBy : Family → List ℕ → Result Layout Refusal → Type 0
LayoutBy f l r = LayoutTold (layout_by f l) r

abbrev pub FixBy : List ℕ → List ℕ → Result FixReading Refusal → Type 0
FixBy line l r = fix_reading_told r ≡ fix_by line l

abbrev pub ExtraBy : List ℕ → List ℕ → Result ExtraReading Refusal → Type 0
ExtraBy line l r = extra_reading_told r ≡ extra_by line l

abbrev pub EntryBy : List ℕ → ℕ → Result Entry Refusal → Type 0
EntryBy l n r = result_told r ≡ entry_by l n

abbrev pub PresenceBy : List ℕ → Result Presence Refusal → Type 0
PresenceBy l r = result_told r ≡ presence_by l
