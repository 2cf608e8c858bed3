-- `summary_span::join_span` meets its contract. Assumes nothing.
use Rattle.summary_span.specs.Sums.{joined_span}
use Rattle.summary_span.proofs.join_span.Goals as goal

pub returns-in_default : goal.returns-in_default
unfolding joined_span
returns-in_default c = rw c.in_default.is

pub returns-in_default-b : goal.returns-in_default-b
unfolding joined_span
returns-in_default-b c = rw (c.in-Some.is, c.in_default-b.is)

pub returns : goal.returns
unfolding joined_span
returns c = rw (c.in-Some.is, c.in-Some-b.is, c.lower.ensures, c.higher.ensures)
