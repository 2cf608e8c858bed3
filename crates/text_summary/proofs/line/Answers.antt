-- `text_summary::line` meets its contract: its parts one after the other. Assumes nothing.
use borrow.Author.Rules.{rules}
use Rattle.text_pieces.proofs.Laws.{then}
use Rattle.text_summary.specs.Outline.{outline_shown}
use Rattle.text_summary.proofs.line.Goals as goal

pub returns : goal.returns
unfolding outline_shown
returns c =
    then c.put_date-a.ensures (then c.put_flight-b.ensures (then c.put_number-c.ensures c.put_box.ensures))
