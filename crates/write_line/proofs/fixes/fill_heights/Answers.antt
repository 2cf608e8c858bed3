-- `write_line::fixes::fill_heights` meets its contract. Assumes nothing.
use Rattle.write_fields.proofs.Laws.{fields}
use Rattle.write_ending.proofs.Laws.{regroup}
use Rattle.write_line.proofs.fixes.fill_heights.Goals as goal

pub returns : goal.returns
returns c = search (fields, regroup) depth 16
