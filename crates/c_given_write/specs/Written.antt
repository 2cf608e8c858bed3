-- What is said of a line that is written by a layout given as the text of its own line, and the output afterwards.
use Rattle.rules.specs.declared.Refusal.{Refusal}
use Rattle.std.specs.Prelude.{ℕ, List, [], ◌≡◌, get_or, Result}
use Rattle.rules.specs.Choice.{given}
use Rattle.rules.specs.Families.{first_start, layout_family_of}
use Rattle.rules.specs.Layouts.{empty_layout, allowed}
use Rattle.rules.specs.Reads.{layout_said}
use Rattle.rules.specs.Refusals.{Said, no, and_then, value_or, result_told}
use Rattle.rules.specs.Writes.{written, out_after, layout_text, fix_text, is_fix, extra_text, is_extra}
use Rattle.rules.specs.declared.Extra.{Extra}
use Rattle.rules.specs.declared.Family.TheVariants as family
use Rattle.rules.specs.declared.Fix.{Fix}
use Rattle.rules.specs.declared.Reason.TheVariants.{BadValue}
use Rattle.c_given.specs.Given.{or_bad_value, layout_by}

-- what is said of a text that is to be written, and the output afterwards
pub record SaidWritten (said : Said ℕ) (text : List ℕ) (place : ℕ) (out : List ℕ) (r : Result ℕ Refusal) (after : List ℕ) : Type 0 where
  pub told : result_told r ≡ said
  pub bytes : after ≡ out_after said text place out

-- "17 BAD_VALUE: .. layout .. given is not allowed", then what the writer of a B line says
unfoldable pub fix_written : Fix → List ℕ → List ℕ → ℕ → List ℕ → Said ℕ
fix_written f columns l place out = and_then (layout_by family.B l) λ layout. written (is_fix f columns layout) (fix_text f columns) place out

-- the same of a K line by a J line, and of an N line by an M line
unfoldable pub extra_written : Extra → ℕ → List ℕ → List ℕ → ℕ → List ℕ → Said ℕ
extra_written e t columns l place out = and_then (layout_by (family.Extra e) l) λ layout. written (is_extra e t columns layout) (extra_text e t columns) place out

-- an I, a J or an M line from its text: 17 where it tells no layout, then what the writer of that layout says
unfoldable pub layout_written : List ℕ → ℕ → List ℕ → Said ℕ
layout_written l place out =
    given (layout_family_of (get_or l 0 0)) (no BadValue 0) λ f.
    and_then (or_bad_value (layout_said f l)) λ layout.
    written (allowed (first_start f) layout) (layout_text f layout) place out

unfoldable pub layout_text_by : List ℕ → List ℕ
layout_text_by l = given (layout_family_of (get_or l 0 0)) [] λ f. layout_text f (value_or empty_layout (layout_said f l))

-- ---- the promises of this crate's functions

abbrev pub FixWrittenBy : Fix → List ℕ → List ℕ → ℕ → List ℕ → Result ℕ Refusal → List ℕ → Type 0
FixWrittenBy f columns l place out r after = SaidWritten (fix_written f columns l place out) (fix_text f columns) place out r after

abbrev pub ExtraWrittenBy : Extra → ℕ → List ℕ → List ℕ → ℕ → List ℕ → Result ℕ Refusal → List ℕ → Type 0
ExtraWrittenBy e t columns l place out r after = SaidWritten (extra_written e t columns l place out) (extra_text e t columns) place out r after

abbrev pub LayoutWrittenBy : List ℕ → ℕ → List ℕ → Result ℕ Refusal → List ℕ → Type 0
LayoutWrittenBy l place out r after = SaidWritten (layout_written l place out) (layout_text_by l) place out r after
