-- `write_line::extras::fill_extra` meets its contract. Assumes nothing.
use Rattle.rules.specs.Writes.{extra_text}
use Rattle.write_fields.proofs.Laws.{fields}
use Rattle.write_ending.proofs.Laws.{regroup}
use Rattle.write_line.proofs.Laws.{letter_then}
use Rattle.write_line.proofs.extras.fill_extra.Goals as goal

pub returns : goal.returns
unfolding extra_text
returns c = search (fields, letter_then, regroup) depth 16
