-- `layout_entry::behind` meets its contract: its tests are those of `placed`, in their order, behind any layout that has the code or has it not, as is said. Assumes nothing.
use Rattle.rules.specs.Refusals.{result_told}
use borrow.Author.Rules.{rules}
use borrow.Author.Tests.{not-true, not-false}
use Rattle.rules.specs.Layouts.{placed}
use Rattle.rules.proofs.Links.{need_eq, need_ne, need_le, need_gt, need_true, need_false, need_not_true, need_not_false}
use Rattle.layout_entry.proofs.Laws.{refuses_at}
use Rattle.layout_entry.proofs.behind.Goals as goal

pub returns-then-e-start : goal.returns-then-e-start
unfolding placed result_told
returns-then-e-start c = search (refuses_at, need_ne, rules) depth 8

pub returns-then-e : goal.returns-then-e
unfolding placed result_told
returns-then-e c = search (refuses_at, need_eq, need_gt, rules) depth 8

pub returns-then-again : goal.returns-then-again
unfolding placed result_told
returns-then-again c = search (refuses_at, need_eq, need_le, need_not_true, rules) depth 8

pub returns-then-not-width_fits : goal.returns-then-not-width_fits
unfolding placed result_told
returns-then-not-width_fits c = search (refuses_at, need_eq, need_le, need_not_false, need_false, not-true, rules) depth 8

pub returns : goal.returns
unfolding placed result_told
returns c = search (need_eq, need_le, need_not_false, need_true, not-false, rules) depth 8
