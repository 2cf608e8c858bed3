-- `layout_look::column` meets its contract: each way out is a way through `look_said`. Assumes nothing.
use borrow.Author.Rules.{rules}
use borrow.Author.Tests.{not-true, not-false}
use Rattle.rules.specs.Looks.{look_said}
use Rattle.rules.specs.Refusals.{result_told}
use Rattle.rules.proofs.Links.{need_true, need_false}
use Rattle.layout_look.proofs.Laws.{spot_there, spot_nowhere}
use Rattle.layout_look.proofs.column.Goals as goal

pub returns-then-not-fits : goal.returns-then-not-fits
unfolding look_said result_told
returns-then-not-fits c = search (need_true, need_false, not-true, not-false, rules) depth 16

pub returns-in_default : goal.returns-in_default
unfolding look_said result_told
returns-in_default c = search (need_true, not-false, spot_there, spot_nowhere, rules) depth 16

pub returns : goal.returns
unfolding look_said result_told
returns c = search (need_true, not-false, spot_there, spot_nowhere, rules) depth 16
