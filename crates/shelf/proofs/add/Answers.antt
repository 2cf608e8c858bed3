-- `shelf::add` meets its contract: the file and its entry are put where the plan says, or nothing is. Assumes nothing.
use mathlib.Core.Path.{refl}
use Rattle.std.proofs.lemmas.Result.{err_from_is_err_and}
use Rattle.shelf.proofs.Ends.{start_small, file_small, add_says, add_refused}
use borrow.Author.Rules.{rules}
use Rattle.shelf.proofs.add.Goals as goal

pub overflow_cast-start : goal.overflow_cast-start
overflow_cast-start c = let z = start_small _ _ _ _ c.plan_add.ensures _ c.in_ok-entry.was in search rules

pub overflow_cast-file : goal.overflow_cast-file
overflow_cast-file c = let z = file_small _ _ _ _ c.plan_add.ensures _ c.in_ok-entry.was in search rules

pub returns-in_err-entry : goal.returns-in_err-entry
returns-in_err-entry c =
    let p = err_from_is_err_and c.from_residual.result c.from_residual.ensures.1 in
    rw (p.1, p.2) (add_refused _ _ _ _ c.plan_add.ensures _ _ c.in_err-entry.was refl)

pub returns : goal.returns
returns c = add_says _ _ _ _ c.plan_add.ensures _ _ _ c.in_ok-entry.was c.text.ensures c.put_slot.ensures
