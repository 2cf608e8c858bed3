-- `summary_span::merge` meets its contract. Assumes nothing.
use Rattle.summary_span.specs.Sums.{merged}
use Rattle.summary_span.proofs.merge.Goals as goal

pub returns : goal.returns
unfolding merged
returns c = rw (← c.join_span.ensures, ← c.join_span-2.ensures, ← c.join_span-3.ensures)
