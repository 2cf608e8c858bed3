-- `write_line::fixes::fill_fix` meets its contract. Assumes nothing.
use Rattle.rules.specs.Writes.{fields_text}
use Rattle.write_fields.proofs.Laws.{fields}
use Rattle.write_ending.proofs.Laws.{regroup}
use Rattle.write_line.proofs.fixes.fill_fix.Goals as goal

pub returns : goal.returns
unfolding fields_text
returns c = search (fields, regroup) depth 16
