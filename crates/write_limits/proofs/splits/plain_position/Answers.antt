-- `write_limits::splits::plain_position` meets its contract. Assumes nothing.
use Rattle.rules.specs.Fixes.{plain_position}
use Rattle.write_limits.proofs.splits.plain_position.Goals as goal

pub returns : goal.returns
unfolding plain_position
returns c = rw c.plain.ensures
