-- `track_step::read_at` meets its contract. Assumes nothing.
use Rattle.track_step.proofs.Laws.{read_none, read_other, read_so}
use Rattle.track_step.proofs.read_at.Goals.{then-not-has_line-via-then-not-has_line, then-not-has_line-via-else-not-has_line+then-file-at-ne66}
use Rattle.track_step.proofs.read_at.Goals as goal

pub returns-then-not-has_line : goal.returns-then-not-has_line
returns-then-not-has_line c =
    elim c.then-not-has_line.branch [
      | then-not-has_line-via-then-not-has_line w ↦ read_none _ _ _ _ c.has_line.ensures w.if-not-has_line.true-raw c.no_fix.ensures
      | then-not-has_line-via-else-not-has_line+then-file-at-ne66 w ↦ read_other _ _ _ _ c.has_line.ensures w.if-not-has_line.false-raw w.if-file-at-ne66.true c.no_fix.ensures
    ]

pub returns : goal.returns
returns c = read_so _ _ _ _ c.has_line.ensures c.if-not-has_line.false-raw c.if-file-at-ne66.false c.read_line.ensures
