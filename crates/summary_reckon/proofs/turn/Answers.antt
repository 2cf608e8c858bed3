-- `summary_reckon::turn` meets its contract. Assumes nothing.
use borrow.Author.Rules.{rules}
use Rattle.track_step.specs.Steps.{step_of}
use Rattle.summary_reckon.proofs.Turning.{turn_leg, turn_list}
use Rattle.summary_reckon.proofs.turn.Goals as goal

pub returns : goal.returns
returns c =
    let a = c.args in (
      turn_leg (step_of a.file.now) a.left a.whole _ _ _ c.next_run-n.ensures c.one_run-run.ensures c.join.ensures,
      turn_list (step_of a.file.now) a.left a.whole _ _ _ _ _ _ c.next_run-n.ensures c.one_run-run.ensures c.put_from.ensures,
    )
