-- `write_legend::fill_entry` meets its contract. Assumes nothing.
use Rattle.rules.specs.Writes.{entry_text}
use Rattle.byte_put.proofs.Laws.{puts}
use Rattle.write_legend.proofs.fill_entry.Goals as goal

pub returns : goal.returns
unfolding entry_text
returns c = search puts depth 16
