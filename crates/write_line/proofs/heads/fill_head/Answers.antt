-- `write_line::heads::fill_head` meets its contract. Assumes nothing.
use Rattle.rules.specs.Writes.{head_text}
use Rattle.write_fields.proofs.Laws.{fields}
use Rattle.write_ending.proofs.Laws.{regroup}
use Rattle.write_line.proofs.heads.fill_head.Goals as goal

pub returns : goal.returns
unfolding head_text
returns c = search (fields, regroup) depth 16
