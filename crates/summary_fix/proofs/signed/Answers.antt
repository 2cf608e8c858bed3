-- `summary_fix::signed` meets its contract. Assumes nothing.
use native.Mathlib.Omega.{arith}
use Rattle.summary_fix.proofs.Laws.{signed_below, signed_above, signed_none}
use Rattle.summary_fix.proofs.signed.Goals.{else-n-le2147483647-via-then-n-le2147483647+else-is_either, else-n-le2147483647-via-else-n-le2147483647}
use Rattle.summary_fix.proofs.signed.Goals as goal

pub returns-then-is_either : goal.returns-then-is_either
returns-then-is_either c = signed_below c.args.p c.if-n-le2147483647.true _ c.is_either.ensures _ c.if-is_either.true c.negative.ensures

pub returns-else-n-le2147483647 : goal.returns-else-n-le2147483647
returns-else-n-le2147483647 c =
    elim c.else-n-le2147483647.branch [
      | else-n-le2147483647-via-then-n-le2147483647+else-is_either w ↦ signed_above c.args.p w.if-n-le2147483647.true _ w.is_either.ensures _ w.if-is_either.false c.figure_of.ensures
      | else-n-le2147483647-via-else-n-le2147483647 w ↦ signed_none c.args.p _ (omega arith) c.figure_of.ensures
    ]
