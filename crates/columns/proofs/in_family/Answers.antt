-- `columns::in_family` meets its contract. Assumes nothing.
use Rattle.std.proofs.lemmas.Result.{err_from_is_err_and}
use Rattle.columns.proofs.Telling.{asked_refused, asked_found, asked_told_lem, asked_by}
use Rattle.columns.proofs.in_family.Goals as goal

pub store-requires : goal.store-requires
store-requires c =
    asked_found c.args.file.now c.args.codes.now c.args.list.now c.args.flight c.args.family c.ask-places.result (asked_by _ _ _ _ c.layout_of.ensures c.ask-places.ensures) c.in_ok-places.was c.requires

pub returns-in_err-places : goal.returns-in_err-places
returns-in_err-places c =
    let p = err_from_is_err_and c.from_residual.result c.from_residual.ensures.1 in
    rw (p.1, p.2)
    (asked_refused c.args.file.now c.args.codes.now c.args.list.now c.args.flight c.args.family c.ask-places.result (asked_by _ _ _ _ c.layout_of.ensures c.ask-places.ensures) _ c.in_err-places.was)

pub returns : goal.returns
returns c =
    asked_told_lem c.args.file.now c.args.codes.now c.args.list.now c.args.flight c.args.family c.ask-places.result (asked_by _ _ _ _ c.layout_of.ensures c.ask-places.ensures) c.in_ok-places.was _ _ c.store.ensures
