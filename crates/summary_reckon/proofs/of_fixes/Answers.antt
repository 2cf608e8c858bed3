-- `summary_reckon::of_fixes` meets its contract. Assumes nothing.
use native.Mathlib.Omega.{arith}
use mathlib.Core.Path.{◌∙◌}
use Rattle.track_step.specs.Steps.{step_of}
use Rattle.summary_reckon.proofs.Reckoning.{count_over, old_over, list_short, list_filled}
use Rattle.summary_reckon.proofs.Turning.{runs_up}
use Rattle.summary_reckon.proofs.of_fixes.Goals.{then-count-gt16777216-via-then-count-gt16777216, then-count-gt16777216-via-else-count-gt16777216+then-count-old}
use Rattle.summary_reckon.proofs.of_fixes.Goals as goal

pub returns-then-count-gt16777216 : goal.returns-then-count-gt16777216
returns-then-count-gt16777216 c =
    let a = c.args in
    elim c.then-count-gt16777216.branch [
      | then-count-gt16777216-via-then-count-gt16777216 w ↦ count_over (step_of a.file.now) a.start a.count a.old a.list.now _ (omega arith) c.unplaced.ensures
      | then-count-gt16777216-via-else-count-gt16777216+then-count-old w ↦ old_over (step_of a.file.now) a.start a.count a.old a.list.now (omega arith) _ (omega arith) c.unplaced.ensures
    ]

pub returns-then-list-n : goal.returns-then-list-n
returns-then-list-n c =
    let a = c.args in
    list_short (step_of a.file.now) a.start a.count a.old a.list.now (omega arith) _ (omega arith) (omega (arith, c.div_ceil-n.ensures, runs_up a.count)) c.unplaced-then-list-n.ensures

pub returns : goal.returns
returns c =
    let a = c.args in
    rw (c.div_ceil-n.ensures ∙ runs_up a.count) (list_filled (step_of a.file.now) a.start a.count a.old a.list.now (omega arith) _ (omega arith) (omega (arith, c.div_ceil-n.ensures, runs_up a.count)) c.fill.ensures)
