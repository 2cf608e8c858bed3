-- `values::fix_from` meets its contract. Assumes nothing.
use borrow.Author.Rules.{rules}
use mir.Syntax.{w32}
use mir.ValLaws.{to_z-of_z}
use Rattle.c_writers.proofs.values.fix_from.Goals as goal

pub returns : goal.returns
returns c = rw (c.height-2.ensures, c.height.ensures, to_z-of_z w32 c.args.pressure c.ranges.pressure, to_z-of_z w32 c.args.gnss c.ranges.gnss)
