-- `check_settle::refused_at` meets its contract. Assumes nothing.
use Rattle.check_settle.proofs.refused_at.Goals as goal

pub returns : goal.returns
returns c = c.refused.ensures
