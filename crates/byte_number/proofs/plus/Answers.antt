-- `byte_number::plus` meets its contract. Assumes nothing.
use mir.Syntax.{w64}
use mir.ValLaws.{to_z_pos}
use Rattle.byte_number.proofs.plus.Goals as goal

pub returns : goal.returns
returns c = rw (to_z_pos w64 _ c.requires)
