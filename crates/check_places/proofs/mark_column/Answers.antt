-- `check_places::mark_column` meets its contract. Assumes nothing.
use Rattle.std.proofs.Common.{◌≡◌, suc, ◌+◌, arith}
use Rattle.check_places.proofs.mark_column.Goals as goal

pub returns : goal.returns
returns c =
    let at = c.args.at in
    let one : at + 1 ≡ suc at = omega arith in
    rw (c.mark_run.ensures, c.next_mark.ensures, c.mark.ensures, c.first_mark.ensures, one)
