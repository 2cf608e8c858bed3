-- `check_finish::finished` meets its contract. Assumes nothing.
use mathlib.Core.Path.{refl}
use borrow.Author.Rules.{rules}
use borrow.Author.Tests.{eq-eqb, ne_eqb, le-leb, lt-leb}
use Rattle.rules.specs.Files.{finish}
use Rattle.rules.specs.Refusals.{result_told}
use Rattle.check_finish.specs.Finishes.{finish_few}
use Rattle.check_finish.proofs.finished.Goals as goal

pub returns-then-st-gt16777216 : goal.returns-then-st-gt16777216
unfolding finish_few finish result_told
returns-then-st-gt16777216 c = rw (lt-leb _ _ c.if-st-gt16777216.true) (rw c.unplaced.ensures at c.refused.ensures)

pub returns-then-st-ne0 : goal.returns-then-st-ne0
unfolding finish_few finish result_told
returns-then-st-ne0 c = rw (le-leb _ _ c.if-st-gt16777216.false, ne_eqb _ _ c.if-st-ne0.true) (rw c.ends_early.ensures at c.refused-then-st-ne0.ensures)

pub returns-then-st-ends_after : goal.returns-then-st-ends_after
unfolding finish_few finish result_told
returns-then-st-ends_after c = rw (← c.ends_after.ensures, le-leb _ _ c.if-st-gt16777216.false, eq-eqb _ _ c.if-st-ne0.false, lt-leb _ _ c.if-st-ends_after.true) (rw c.ends_early-then-st-ends_after.ensures at c.refused-then-st-ends_after.ensures)

pub returns : goal.returns
unfolding finish_few finish result_told
returns c = rw (← c.ends_after.ensures, le-leb _ _ c.if-st-gt16777216.false, eq-eqb _ _ c.if-st-ne0.false, le-leb _ _ c.if-st-ends_after.false) (record { answer = refl; flight = refl })
