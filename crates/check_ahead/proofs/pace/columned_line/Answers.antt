-- `check_ahead::pace::columned_line` meets its contract: a line that is taken is one that the check judges good. Assumes nothing.
use Rattle.check_ahead.proofs.Lines.{columned_told_lem}
use Rattle.check_ahead.proofs.pace.columned_line.Goals as goal

pub returns : goal.returns
returns c = λ st g k e n. columned_told_lem _ st _ _ g n _ _ _ _ _ k e c.sure_line-time.ensures _ c.one_more.ensures c.after_time.ensures
