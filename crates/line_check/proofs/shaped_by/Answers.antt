-- `line_check::shaped_by` meets its contract. Assumes nothing.
use Rattle.rules.specs.Lines.{shaped_by}
use Rattle.line_check.proofs.shaped_by.Goals as goal

pub returns : goal.returns
unfolding shaped_by
returns c = rw (← c.line_length-n.ensures) c.shaped.ensures
