-- `check_after::judge_layout` meets its contract. Assumes nothing.
use mathlib.Core.Path.{refl}
use borrow.Author.Rules.{rules}
use Rattle.rules.specs.Refusals.{result_told}
use Rattle.rules.proofs.Links.{then_ok, then_err}
use Rattle.rules.proofs.Handed.{handed_on}
use Rattle.check_after.proofs.judge_layout.Goals as goal

pub returns : goal.returns
unfolding result_told
returns c = then_ok _ _ _ _ _ c.layout_line.ensures c.in_ok-layout.was (rw c.laid_out.ensures)

pub returns-in_err-layout : goal.returns-in_err-layout
returns-in_err-layout c = handed_on _ _ _ c.from_residual.ensures.1 (then_err _ _ _ _ _ c.layout_line.ensures c.in_err-layout.was refl)
