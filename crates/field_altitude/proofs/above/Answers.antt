-- `field_altitude::above` meets its contract. Assumes nothing.
use native.Mathlib.Omega.{arith}
use borrow.Author.Rules.{rules}
use mir.Syntax.{w32}
use mir.ValLaws.{to_z_pos}
use Rattle.field_altitude.proofs.above.Goals as goal

pub returns : goal.returns
returns c = rw (to_z_pos w32 c.args.v (omega arith))
