-- `check_settle::timed_at` meets its contract. Assumes nothing.
use borrow.Author.Rules.{rules}
use mathlib.Core.Path.{sym, ◌∙◌}
use Rattle.rules.specs.Order.{timed}
use Rattle.check_settle.proofs.timed_at.Goals as goal

pub returns-then-is_back : goal.returns-then-is_back
unfolding timed
returns-then-is_back c = rw (sym c.is_back.ensures ∙ c.if-is_back.true) c.refused_at.ensures

pub returns : goal.returns
unfolding timed
returns c = rw (sym c.is_back.ensures ∙ c.if-is_back.false, ← c.clocked_to.ensures) c.passed.ensures
