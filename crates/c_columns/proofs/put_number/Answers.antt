-- `put_number` meets its contract. Assumes nothing.
use Rattle.rules.specs.Refusals.{result_told}
use borrow.Author.Rules.{rules}
use mathlib.Core.Path.{refl}
use mir.Syntax.{w64}
use mir.Facts.{to_z-of_z}
use Rattle.c_answers.proofs.Laws.{one_set}
use Rattle.c_columns.proofs.put_number.Goals as goal

pub returns-in-Ok : goal.returns-in-Ok
unfolding result_told
returns-in-Ok c = rw c.in-Ok.is (one_set c.args.number.now _ _ c.requires (to_z-of_z {w = w64} (record { sfits = c.struct_told-1.given.0.1 })))

pub returns-in-Err : goal.returns-in-Err
unfolding result_told
returns-in-Err c = rw c.in-Err.is (one_set c.args.number.now _ _ c.requires refl)
