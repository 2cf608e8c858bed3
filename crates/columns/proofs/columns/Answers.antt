-- `columns::columns` meets its contract. Assumes nothing.
use Rattle.std.proofs.lemmas.Result.{err_from_is_err_and}
use Rattle.columns.proofs.Telling.{check_refused, check_accepted, check_told}
use Rattle.columns.proofs.columns.Goals as goal

pub of_flight-requires : goal.of_flight-requires
of_flight-requires c =
    check_accepted c.args.file.now c.args.codes.now c.args.list.now c.args.letter c.check_untabled-checked.result c.check_untabled-checked.ensures c.in_ok-checked.was

pub returns-in_err-checked : goal.returns-in_err-checked
returns-in_err-checked c =
    let p = err_from_is_err_and c.from_residual.result c.from_residual.ensures.1 in
    rw (p.1, p.2)
    (check_refused c.args.file.now c.args.codes.now c.args.list.now c.args.letter c.check_untabled-checked.result c.check_untabled-checked.ensures _ c.in_err-checked.was)

pub returns : goal.returns
returns c =
    check_told c.args.file.now c.args.codes.now c.args.list.now c.args.letter c.check_untabled-checked.result c.check_untabled-checked.ensures c.in_ok-checked.was _ _ c.of_flight.ensures
