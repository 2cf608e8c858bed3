-- `summary_span::join` meets its contract. Assumes nothing.
use mathlib.Core.Path.{refl}
use Rattle.rules.proofs.Links.{cond_true, cond_false}
use Rattle.summary_span.specs.Sums.{joined}
use Rattle.summary_span.proofs.join.Goals as goal

pub returns-then-is_some-2 : goal.returns-then-is_some-2
unfolding joined
returns-then-is_some-2 c = cond_true _ _ _ _ _ c.is_some.ensures c.if-is_some.true (cond_true _ _ _ _ _ c.is_some-then-is_some.ensures c.if-is_some-2.true c.merge.ensures)

pub returns-then-is_some : goal.returns-then-is_some
unfolding joined
returns-then-is_some c = cond_true _ _ _ _ _ c.is_some.ensures c.if-is_some.true (cond_false _ _ _ _ _ c.is_some-then-is_some.ensures c.if-is_some-2.false refl)

pub returns : goal.returns
unfolding joined
returns c = cond_false _ _ _ _ _ c.is_some.ensures c.if-is_some.false refl
