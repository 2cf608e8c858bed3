-- `write_limits::lines::good_fix` meets its contract: its counts have few decimals where they are split. Assumes nothing.
use Rattle.write_limits.proofs.Laws.{few_decimals}
use Rattle.write_limits.proofs.lines.good_fix.Goals as goal

pub are_split-requires : goal.are_split-requires
are_split-requires c = few_decimals _ _ c.is_fine.ensures c.if-not-is_fine.false-raw
