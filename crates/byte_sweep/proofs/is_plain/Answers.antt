-- `byte_sweep::is_plain` meets its contract. Assumes nothing.
use Rattle.std.proofs.Common.{rules}
use Rattle.byte_sweep.specs.Plain.{is_plain}
use Rattle.byte_sweep.proofs.Laws.{folded}
use Rattle.byte_sweep.proofs.is_plain.Goals as goal

pub returns : goal.returns
returns c = folded is_plain _ c.args.text.now (search rules)
