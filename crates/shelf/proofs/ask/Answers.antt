-- `shelf::ask` meets its contract. Assumes nothing.
use Rattle.std.proofs.lemmas.Result.{err_from_is_err_and}
use Rattle.shelf.proofs.Ends.{ask_says, ask_refused}
use Rattle.shelf.proofs.ask.Goals as goal

pub returns-in_err-n : goal.returns-in_err-n
returns-in_err-n c =
    let p = err_from_is_err_and c.from_residual.result c.from_residual.ensures.1 in
    rw (p.1, p.2) (ask_refused _ _ _ c.held_at.ensures _ c.in_err-n.was)

pub returns : goal.returns
returns c = ask_says _ _ _ c.held_at.ensures _ _ c.in_ok-n.was c.slot_at-s.ensures
