-- `check_judge::judge_few` meets its contract: each way out is a way through `judge`. Assumes nothing.
use mathlib.Core.Path.{sym, ◌∙◌}
use borrow.Author.Rules.{rules}
use borrow.Author.Tests.{le-leb, not-true, not-false}
use Rattle.check_judge.proofs.Judging.{judge_empty, judge_roleless, judge_misplaced, judge_ruled}
use Rattle.check_judge.proofs.judge_few.Goals as goal

pub returns-then-not-is_role : goal.returns-then-not-is_role
returns-then-not-is_role c =
    rw (judge_roleless _ _ c.if-line-lt1.false _ (rw c.kind_of.ensures at c.role_of-role.ensures) (sym c.is_role.ensures ∙ not-true _ c.if-not-is_role.true-raw))
    c.refused_at-then-not-is_role.ensures

pub returns-in_default : goal.returns-in_default
returns-in_default c =
    rw (judge_misplaced _ _ c.if-line-lt1.false _ (rw c.kind_of.ensures at c.role_of-role.ensures) (sym c.is_role.ensures ∙ not-false _ c.if-not-is_role.false-raw) _ c.order_of.ensures c.in_default.is)
    c.refused_at-in_default.ensures

pub returns : goal.returns
returns c =
    rw (judge_ruled _ _ c.if-line-lt1.false _ (rw c.kind_of.ensures at c.role_of-role.ensures) (sym c.is_role.ensures ∙ not-false _ c.if-not-is_role.false-raw) _ c.order_of.ensures _ c.in-Some.is)
    (rw (c.moved_to.ensures, le-leb _ _ c.requires.lines) at c.ruled_line.ensures)

pub ruled_line-requires : goal.ruled_line-requires
ruled_line-requires c =
    rw (c.moved_to.ensures, le-leb _ _ c.requires.lines) c.requires.count

pub returns-then-line-lt1 : goal.returns-then-line-lt1
returns-then-line-lt1 c = rw (judge_empty _ _ c.if-line-lt1.true) c.refused_at.ensures
