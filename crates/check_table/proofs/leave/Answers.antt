-- `check_table::leave` meets its contract. Assumes nothing.
use mathlib.Core.Path.{refl}
use borrow.Author.Rules.{rules}
use borrow.Author.Tests.{le-leb, lt-leb}
use Rattle.rules.specs.Refusals.{result_told}
use Rattle.check_table.specs.Entering.{left_few}
use Rattle.check_table.proofs.Entering.{halts}
use Rattle.check_table.proofs.leave.Goals as goal

pub returns-then-st-gt16777216 : goal.returns-then-st-gt16777216
unfolding left_few result_told
returns-then-st-gt16777216 c = rw (lt-leb _ _ c.if-st-gt16777216.true, c.unplaced.ensures) (halts c.args.st _ refl refl)

pub returns-in-Ok : goal.returns-in-Ok
unfolding left_few result_told
returns-in-Ok c = rw (le-leb _ _ c.if-st-gt16777216.false, c.in-Ok.is) c.enter.ensures

pub returns-in-Err : goal.returns-in-Err
unfolding left_few result_told
returns-in-Err c = rw (le-leb _ _ c.if-st-gt16777216.false, c.in-Err.is) (rw c.in_next.ensures (halts c.args.st _ refl refl))
