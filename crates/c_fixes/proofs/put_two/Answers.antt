-- `put_two` meets its contract. Assumes nothing.
use borrow.Author.Rules.{rules}
use mir.Syntax.{w32}
use mir.Facts.{to_z-of_z}
use Rattle.c_answers.proofs.Laws.{two_set}
use Rattle.c_fixes.proofs.put_two.Goals as goal

pub returns : goal.returns
returns c = two_set c.args.heights.now _ _ _ _ c.requires (to_z-of_z {w = w32} (record { sfits = c.struct_told-1.given.0.1 })) (to_z-of_z {w = w32} (record { sfits = c.struct_told-2-1.given.0.1 }))
