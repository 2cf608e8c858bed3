-- `write_line::fixes::fill_place` meets its contract. Assumes nothing.
use Rattle.write_fields.proofs.Laws.{fields}
use Rattle.write_ending.proofs.Laws.{regroup}
use Rattle.write_line.proofs.fixes.fill_place.Goals as goal

pub returns : goal.returns
returns c = search (fields, regroup) depth 16
