-- `check_judge::judge_line` meets its contract: a state whose counts are not few is refused. Assumes nothing.
use mathlib.Core.Path.{sym, ◌∙◌}
use borrow.Author.Rules.{rules}
use borrow.Author.Tests.{not-true, not-false}
use Rattle.check_state.proofs.States.{has_few_lem}
use Rattle.check_judge.proofs.Judging.{judge_many, judge_counted}
use Rattle.check_judge.proofs.judge_line.Goals as goal

pub returns-then-not-has_few : goal.returns-then-not-has_few
returns-then-not-has_few c = rw (judge_many _ _ (sym c.has_few.ensures ∙ not-true _ c.if-not-has_few.true-raw)) c.refused_at.ensures

pub judge_few-requires : goal.judge_few-requires
judge_few-requires c = has_few_lem _ (sym c.has_few.ensures ∙ not-false _ c.if-not-has_few.false-raw)

pub returns : goal.returns
returns c = rw (judge_counted _ _ (sym c.has_few.ensures ∙ not-false _ c.if-not-has_few.false-raw)) c.judge_few.ensures
