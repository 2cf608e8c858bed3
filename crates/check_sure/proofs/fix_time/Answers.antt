-- `check_sure::fix_time` meets its contract: a line whose fields are refused has no time. Assumes nothing.
use mathlib.Core.Path.{sym, ◌∙◌}
use Rattle.check_sure.proofs.Laws.{time_not}
use Rattle.check_sure.proofs.fix_time.Goals as goal

pub returns-in_err-ok : goal.returns-in_err-ok
returns-in_err-ok c = c.from_residual.ensures ∙ time_not _ _ c.fix_fields.ensures (sym c.ok.ensures.value ∙ c.in_err-ok.was)
