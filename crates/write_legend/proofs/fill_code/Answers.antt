-- `write_legend::fill_code` meets its contract. Assumes nothing.
use Rattle.byte_put.proofs.Laws.{puts}
use Rattle.write_legend.proofs.fill_code.Goals as goal

pub returns : goal.returns
returns c = search puts depth 16
