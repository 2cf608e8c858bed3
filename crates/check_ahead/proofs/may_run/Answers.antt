-- `check_ahead::may_run` meets its contract. Assumes nothing.
use mathlib.Core.Path.{sym, ◌∙◌}
use Rattle.check_state.proofs.States.{has_few_lem}
use Rattle.check_ahead.proofs.may_run.Goals as goal

pub returns : goal.returns
returns c z =
    record {
      points = c.if-st-ne0.false;
      low = c.if-st-lt-AFTER_H.false;
      high = c.if-st-gt-IN_BODY.false;
      size = c.if-file-gt16777216.false;
      within = c.if-file-from.false;
      few = has_few_lem _ (sym c.has_few.ensures ∙ z);
    }
