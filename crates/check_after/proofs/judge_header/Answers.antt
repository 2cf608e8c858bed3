-- `check_after::judge_header` meets its contract. Assumes nothing.
use mathlib.Core.Path.{refl}
use borrow.Author.Rules.{rules}
use borrow.Author.Tests.{eq-eqb, ne_eqb}
use Rattle.rules.specs.Order.{header_line}
use Rattle.rules.specs.Refusals.{result_told}
use Rattle.rules.proofs.Links.{then_ok, then_err}
use Rattle.rules.proofs.Handed.{handed_on}
use Rattle.check_after.proofs.judge_header.Goals as goal

pub returns-then-st-eq2 : goal.returns-then-st-eq2
unfolding header_line result_told
returns-then-st-eq2 c = rw (eq-eqb _ _ c.if-st-eq2.true) (then_ok _ _ _ _ _ c.date_line.ensures c.in_ok-date.was (rw c.dated_to.ensures))

pub returns-in_err-date : goal.returns-in_err-date
unfolding header_line result_told
returns-in_err-date c = handed_on _ _ _ c.from_residual.ensures.1 (rw (eq-eqb _ _ c.if-st-eq2.true) (then_err _ _ _ _ _ c.date_line.ensures c.in_err-date.was refl))

pub returns : goal.returns
unfolding header_line result_told
returns c = rw (ne_eqb _ _ c.if-st-eq2.false) (rw c.header.ensures at c.after_outcome.ensures)
