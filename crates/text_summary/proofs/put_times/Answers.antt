-- `text_summary::put_times` meets its contract. Assumes nothing.
use borrow.Author.Rules.{rules}
use Rattle.text_pieces.proofs.Laws.{then}
use Rattle.text_summary.specs.Outline.{times_shown}
use Rattle.text_summary.proofs.put_times.Goals as goal

pub returns : goal.returns
unfolding times_shown
returns c =
    then c.put_when-a.ensures (then c.put_when-b.ensures (rw c.lasted.ensures at c.put_lasting.ensures))
