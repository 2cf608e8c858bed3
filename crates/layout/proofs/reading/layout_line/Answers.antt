-- `layout::reading::layout_line` meets its contract: the shape, then the fields. Assumes nothing.
use mathlib.Core.Path.{refl}
use Rattle.rules.specs.Lines.{layout_line}
use Rattle.rules.proofs.Links.{then_ok, then_err}
use Rattle.rules.proofs.Handed.{handed_on}
use Rattle.byte_shape.proofs.Laws.{accepted_most}
use Rattle.layout.proofs.Turns.{told_same}
use borrow.Author.Rules.{rules}
use Rattle.layout.proofs.reading.layout_line.Goals as goal

pub fields-requires : goal.fields-requires
fields-requires c = accepted_most 3 99 _ _ _ c.shaped.ensures c.in_ok-shaped.was

pub returns : goal.returns
unfolding layout_line
returns c =
    told_same _ _ _ (then_ok _ _ _ _ _ c.shaped.ensures c.in_ok-shaped.was (rw c.first_start.ensures)) c.fields.ensures

pub returns-in_err-shaped : goal.returns-in_err-shaped
unfolding layout_line
returns-in_err-shaped c =
    handed_on _ _ _ c.from_residual.ensures.1 (then_err _ _ _ _ _ c.shaped.ensures c.in_err-shaped.was refl)
