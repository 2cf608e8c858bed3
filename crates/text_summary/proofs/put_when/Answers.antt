-- `text_summary::put_when` meets its contract. Assumes nothing.
use borrow.Author.Rules.{rules}
use Rattle.text_pieces.proofs.Laws.{then}
use Rattle.text_summary.specs.Outline.{when_shown}
use Rattle.text_summary.proofs.put_when.Goals as goal

pub returns : goal.returns
unfolding when_shown
returns c =
    then (rw c.natural_at.ensures at c.put_seconds-a.ensures) (rw c.natural_at-2.ensures at c.put_day.ensures)
