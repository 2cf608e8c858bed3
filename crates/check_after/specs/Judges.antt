-- The state after an H line, a line that tells a layout, a C line and a line with columns, beside what is said of the line.
use Rattle.rules.specs.declared.Refusal.{Refusal}
use Rattle.std.specs.Prelude.{ℕ, List, Result}
use Rattle.rules.specs.Families.{first_start, layout_of}
use Rattle.rules.specs.Lines.{layout_line, columned_line}
use Rattle.rules.specs.Order.{laid_out, timed, declaration_line, header_line}
use Rattle.rules.specs.Refusals.{says, and_then}
use Rattle.rules.specs.declared.Family.{Family}
use Rattle.rules.specs.declared.State.{State}
use Rattle.check_state.specs.States.{counted_in}
use Rattle.check_settle.specs.Settled.{JudgedTold}

abbrev pub HeaderJudged : List ℕ → State → Result State Refusal → Type 0
HeaderJudged l st r = JudgedTold (header_line l st) r

abbrev pub LayoutJudged : Family → List ℕ → State → Result State Refusal → Type 0
LayoutJudged f l st r = JudgedTold (and_then (layout_line (first_start f) l) λ i. says (laid_out f i st)) r

abbrev pub DeclarationJudged : List ℕ → State → Result State Refusal → Type 0
DeclarationJudged l st r = JudgedTold (declaration_line l st) r

-- as `ruled`, but counts that are not few stay
abbrev pub ColumnedJudged : Family → List ℕ → State → Result State Refusal → Type 0
ColumnedJudged f l st r = JudgedTold (and_then (columned_line f (layout_of f st.flight.layouts) l) λ t. timed t (counted_in f st)) r
