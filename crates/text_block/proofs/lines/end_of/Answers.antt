-- `text_block::lines::end_of` meets its contract: the next line's offset, or the end of the file. Assumes nothing.
use mathlib.Core.Path.{◌∙◌}
use Rattle.text_block.proofs.Laws.{ends_next, ends_last}
use Rattle.text_block.proofs.lines.end_of.Goals as goal
use Rattle.text_block.proofs.lines.end_of.Goals.{then-next-lines, else-next-lines}

pub returns : goal.returns
returns c =
    elim c.if-next-lines.branch [
      | then-next-lines w ↦ ends_next _ _ _ _ _ _ w.if-next-lines.true (w.end-is ∙ w.entry-end.ensures) c.saturating_sub.ensures
      | else-next-lines w ↦ ends_last _ _ _ _ _ w.if-next-lines.false (rw w.end-is at c.saturating_sub.ensures)
    ]
