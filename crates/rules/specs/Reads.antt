-- Document 01, the paragraph after the refusal table: what each reader of a line answers. "Line readers repeat the checks of 7 to 13 after 17, with 0 for the line
-- number; then 19, then 20. A refused reading returns no value."
use Rattle.rules.specs.declared.Refusal.{Refusal}
use Rattle.std.specs.Prelude.{ℕ, List, [], eqb, get_or, drop, Ok, Err, Result}
use Prim.Native.Char.{code}
use Rattle.rules.specs.Choice.{need, byte}
use Rattle.rules.specs.Refusals.{Said, says, refuses, no, refusal, and_then, result_told}
use Rattle.rules.specs.Families.{first_start, line_letter, layout_letter}
use Rattle.rules.specs.Layouts.{empty_layout, allowed}
use Rattle.rules.specs.Lines.{date_line, layout_line, head_line, point_line, e_line, f_line, FieldsIn, family_line}
use Rattle.rules.specs.Fixes.{finer_of, fix_of}
use Rattle.rules.specs.declared.Reason.TheVariants.{BadValue}
use Rattle.rules.specs.declared.Signed.{Signed}
use Rattle.rules.specs.declared.Date.{Date}
use Rattle.rules.specs.declared.Layout.{Layout}
use Rattle.rules.specs.declared.Extra.{Extra}
use Rattle.rules.specs.declared.Family.{Family}
use Rattle.rules.specs.declared.Family.TheVariants as family
use Rattle.rules.specs.declared.FixFields.{FixFields}
use Rattle.rules.specs.declared.Fix.{Fix}
use Rattle.rules.specs.declared.Head.{Head}
use Rattle.rules.specs.declared.Point.{Point}
use Rattle.rules.specs.declared.FixReading.{FixReading}
use Rattle.rules.specs.declared.ExtraReading.{ExtraReading}

module _ {A : Type 0} where
  -- "A line of another kind than the reader's is 17."
  abbrev pub of_kind : ℕ → List ℕ → (Unit {0} → Said A) → Said A
  of_kind letter l f = need (eqb (get_or l 0 0) letter) (no BadValue 0) f

  -- "17 BAD_VALUE: value, layout .. given is not allowed"
  abbrev pub by_layout : Family → Layout → (Unit {0} → Said A) → Said A
  by_layout f layout g = need (allowed (first_start f) layout) (no BadValue 0) g

-- a line of a family with its layout: 17 for another kind, 17 for the layout, then the checks of the line; what its bytes before the columns spell
abbrev pub fields_said : (f : Family) → List ℕ → Layout → Said (FieldsIn f)
fields_said f l layout = of_kind (line_letter f) l λ _. by_layout f layout λ _. family_line f layout l

-- what its reading gives before the columns: of a B line its fix, of a K or an N line its time
abbrev pub ValueOf : Family → Type 0
ValueOf family.B = Fix
ValueOf (family.Extra e) = ℕ

-- the value, from what the bytes of a line with its layout spell before the columns: only B lines are refined
abbrev pub value_from : (f : Family) → List ℕ → Layout → FieldsIn f → ValueOf f
value_from family.B l layout v = fix_of l (finer_of layout) v
value_from (family.Extra e) l layout t = t

-- the value of a line of a family with its layout
abbrev pub said_of : (f : Family) → List ℕ → Layout → Said (ValueOf f)
said_of family.B l layout = and_then (fields_said family.B l layout) λ f. says (fix_of l (finer_of layout) f)
said_of (family.Extra e) l layout = fields_said (family.Extra e) l layout

-- the fix of a B line with its I layout
unfoldable pub fix_said : List ℕ → Layout → Said Fix
fix_said l layout = said_of family.B l layout

-- the time of a K line with its J layout, or of an N line with its M layout
unfoldable pub extra_said : Extra → List ℕ → Layout → Said ℕ
extra_said e l layout = said_of (family.Extra e) l layout

-- Document 02, request 8: "Make these one operation: the fix (for K and N lines the time), and for each entry, in layout order, up to 13, its code, first and last byte."
pub record Reading (A : Type 0) : Type 0 where
  pub value : A
  pub entries : Layout

-- what a reading answers: what is said of the value, and the entries beside it
pub record Answer (A : Type 0) : Type 0 where
  pub value : Said A
  pub entries : Layout

module _ {A : Type 0} where
  -- a value with the entries of the layout
  abbrev pub with_entries : Layout → Said A → Said (Reading A)
  with_entries layout s = and_then s λ v. says (record { value = v; entries = layout })

  -- "A refused reading returns no value": no entries beside a refusal
  abbrev pub answered : Said (Reading A) → Answer A
  answered (says r) = record { value = says r.value; entries = r.entries }
  answered (refuses n k b) = record { value = refuses n k b; entries = empty_layout }

-- the one reading of a line of a family
unfoldable pub reading : (f : Family) → List ℕ → Layout → Said (Reading (ValueOf f))
reading f l layout = with_entries layout (said_of f l layout)

-- the time of an E line, and of an F line
unfoldable pub event_said : List ℕ → Said ℕ
event_said l = of_kind (code "E") l λ _. e_line l

unfoldable pub satellites_said : List ℕ → Said ℕ
satellites_said l = of_kind (code "F") l λ _. f_line l

-- the date of line 2
unfoldable pub date_said : List ℕ → Said Date
date_said l = of_kind (code "H") l λ _. date_line l

-- the layout of an I line, for B lines, of a J line, for K lines, and of an M line, for N lines
unfoldable pub layout_said : Family → List ℕ → Said Layout
layout_said f l = of_kind (layout_letter f) l λ _. layout_line (first_start f) l

-- "C head and C point have a reader .. each"
unfoldable pub head_said : List ℕ → Said Head
head_said l = of_kind (code "C") l λ _. head_line l

unfoldable pub point_said : List ℕ → Said Point
point_said l = of_kind (code "C") l λ _. point_line l

-- the text behind a head's fields, and behind a point's; none where refused
unfoldable pub head_rest : List ℕ → Said Head → List ℕ
head_rest l (says h) = drop (byte 26) l
head_rest l (refuses n k b) = []

unfoldable pub point_rest : List ℕ → Said Point → List ℕ
point_rest l (says p) = drop (byte 19) l
point_rest l (refuses n k b) = []

-- the answers, in the paper's terms

unfoldable pub fix_reading_told : Result FixReading Refusal → Said (Reading Fix)
fix_reading_told (Ok r) = says (record { value = r.fix; entries = r.entries })
fix_reading_told (Err w) = refusal w

unfoldable pub extra_reading_told : Result ExtraReading Refusal → Said (Reading ℕ)
extra_reading_told (Ok r) = says (record { value = r.time; entries = r.entries })
extra_reading_told (Err w) = refusal w
