-- `line_read::layout_of` meets its contract: each way out is a way through `layout_said`. Assumes nothing.
use mathlib.Core.Path.{refl, sym, ◌∙◌}
use Rattle.rules.specs.Refusals.{result_told}
use Rattle.rules.specs.Reads.{layout_said}
use Rattle.layout.proofs.Turns.{told_same}
use Rattle.line_known.proofs.Laws.{kind_is, kind_is_not}
use Rattle.line_read.proofs.layout_of.Goals as goal

pub returns-then-byte-layout_letter : goal.returns-then-byte-layout_letter
unfolding layout_said result_told
returns-then-byte-layout_letter c =
    kind_is_not _ _ _ _ _ _ c.byte.ensures (λ q. c.if-byte-layout_letter.true (q ∙ sym c.layout_letter.ensures)) refl

pub returns : goal.returns
unfolding layout_said
returns c =
    told_same _ _ _
    (kind_is _ _ _ _ _ _ c.byte.ensures (c.if-byte-layout_letter.false ∙ c.layout_letter.ensures) refl)
    c.layout_line.ensures
