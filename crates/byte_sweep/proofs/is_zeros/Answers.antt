-- `byte_sweep::is_zeros` meets its contract. Assumes nothing.
use Rattle.std.proofs.Common.{rules}
use Rattle.rules.specs.Listed.{is_zeros}
use Rattle.byte_sweep.specs.Plain.{is_zero}
use Rattle.byte_sweep.proofs.Laws.{folded}
use Rattle.byte_sweep.proofs.is_zeros.Goals as goal

pub returns : goal.returns
unfolding is_zeros
returns c = folded is_zero _ c.args.text.now (search rules)
