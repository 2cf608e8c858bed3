-- `shelf::remove` meets its contract. Assumes nothing.
use mathlib.Core.Path.{refl}
use Rattle.std.proofs.lemmas.Result.{err_from_is_err_and}
use Rattle.shelf.proofs.Ends.{remove_says, remove_refused}
use Rattle.shelf.proofs.remove.Goals as goal

pub returns-in_err-n : goal.returns-in_err-n
returns-in_err-n c =
    let p = err_from_is_err_and c.from_residual.result c.from_residual.ensures.1 in
    rw (p.1, p.2) (remove_refused _ _ _ c.held_at.ensures _ _ c.in_err-n.was refl)

pub returns : goal.returns
returns c = remove_says _ _ _ c.held_at.ensures _ _ _ c.in_ok-n.was c.default.ensures c.put_slot.ensures
