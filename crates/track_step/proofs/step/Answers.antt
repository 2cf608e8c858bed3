-- `track_step::step` meets its contract. Assumes nothing.
use Rattle.track_step.proofs.Laws.{few_so, step_none, step_read}
use Rattle.track_step.proofs.step.Goals as goal

pub returns-then-not-is_few : goal.returns-then-not-is_few
returns-then-not-is_few c = step_none _ _ _ _ c.is_few.ensures c.if-not-is_few.true-raw c.no_fix.ensures

pub skip-p-requires : goal.skip-p-requires
skip-p-requires c = few_so c.args.file.now _ _ c.is_few.ensures c.if-not-is_few.false-raw

pub read_at-requires : goal.read_at-requires
read_at-requires c = c.skip-p.ensures.1

pub returns : goal.returns
returns c = step_read _ _ _ _ c.is_few.ensures c.if-not-is_few.false-raw _ c.skip-p.ensures.0 c.read_at.ensures
