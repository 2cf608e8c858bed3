-- `check_places::mark_end` meets its contract. Assumes nothing.
use Rattle.std.proofs.Common.{◌≡◌, suc, ◌+◌, arith}
use Rattle.check_places.proofs.mark_end.Goals as goal

pub returns : goal.returns
returns c =
    let one : c.args.at + 1 ≡ suc c.args.at = omega arith in
    rw (c.mark-2.ensures, c.mark.ensures, one)
