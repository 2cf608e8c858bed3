-- `check_after::judge_declaration` meets its contract. Assumes nothing.
use mathlib.Core.Path.{refl}
use borrow.Author.Rules.{rules}
use borrow.Author.Tests.{eq-eqb, ne_eqb}
use Rattle.rules.specs.Order.{declaration_line}
use Rattle.rules.specs.Refusals.{result_told}
use Rattle.rules.proofs.Links.{then_ok, then_err}
use Rattle.rules.proofs.Handed.{handed_on}
use Rattle.check_after.proofs.judge_declaration.Goals as goal

pub returns-then-st-eq0 : goal.returns-then-st-eq0
unfolding declaration_line result_told
returns-then-st-eq0 c = rw (eq-eqb _ _ c.if-st-eq0.true) (then_ok _ _ _ _ _ c.head_line.ensures c.in_ok-head.was (rw c.begun_by.ensures))

pub returns-in_err-head : goal.returns-in_err-head
unfolding declaration_line result_told
returns-in_err-head c = handed_on _ _ _ c.from_residual.ensures.1 (rw (eq-eqb _ _ c.if-st-eq0.true) (then_err _ _ _ _ _ c.head_line.ensures c.in_err-head.was refl))

pub returns : goal.returns
unfolding declaration_line result_told
returns c = rw (ne_eqb _ _ c.if-st-eq0.false) (then_ok _ _ _ _ _ c.point_line.ensures c.in_ok-point_line.was (rw c.pointed_by.ensures))

pub returns-in_err-point_line : goal.returns-in_err-point_line
unfolding declaration_line result_told
returns-in_err-point_line c = handed_on _ _ _ c.from_residual-in_err-point_line.ensures.1 (rw (ne_eqb _ _ c.if-st-eq0.false) (then_err _ _ _ _ _ c.point_line.ensures c.in_err-point_line.was refl))
