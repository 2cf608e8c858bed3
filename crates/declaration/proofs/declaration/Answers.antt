-- `declaration::declaration` meets its contract. Assumes nothing.
use Rattle.std.proofs.lemmas.Result.{err_from_is_err_and}
use Rattle.declaration.proofs.Telling.{check_refused, check_told}
use Rattle.declaration.proofs.declaration.Goals as goal

pub returns-in_err-check_untabled : goal.returns-in_err-check_untabled
returns-in_err-check_untabled c =
    let a = c.args in
    let p = err_from_is_err_and c.from_residual.result c.from_residual.ensures.1 in
    rw (p.1, p.2) (check_refused a.list.now a.file.now _ c.check_untabled.ensures _ c.in_err-check_untabled.was)

pub returns : goal.returns
returns c =
    let a = c.args in
    check_told a.list.now a.file.now _ c.check_untabled.ensures c.in_ok-check_untabled.was _ _ c.store.ensures
