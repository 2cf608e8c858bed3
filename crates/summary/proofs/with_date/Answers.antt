-- `summary::with_date` meets its contract. Assumes nothing.
use Rattle.summary.proofs.Summing.{dated_refused, dated_short, dated_summed}
use Rattle.summary.proofs.with_date.Goals as goal

pub returns-in-Err : goal.returns-in-Err
returns-in-Err c =
    let checked = c.check_untabled-checked in
    let a = c.args in
    dated_refused a.file.now checked.result checked.ensures a.old a.list.now _ c.in-Err.is

pub returns-in-Err-answer : goal.returns-in-Err-answer
returns-in-Err-answer c =
    let checked = c.check_untabled-checked in
    let planned = c.for_flight-course in
    let a = c.args in
    dated_short a.file.now checked.result checked.ensures a.old a.list.now planned.result c.in_default.is planned.ensures _ c.in-Err-answer.is

pub returns-in-Ok : goal.returns-in-Ok
returns-in-Ok c =
    let checked = c.check_untabled-checked in
    let planned = c.for_flight-course in
    let a = c.args in
    dated_summed a.file.now checked.result checked.ensures a.old a.list.now planned.result c.in_default.is planned.ensures _ _ _ c.in-Ok.is c.of_fixes.ensures
