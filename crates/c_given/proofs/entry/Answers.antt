-- `entry` meets its contract. Assumes nothing.
use mathlib.Core.Path.{refl}
use borrow.Author.Rules.{rules}
use borrow.Author.Tests.{le-leb}
use Rattle.rules.specs.Refusals.{result_told}
use Rattle.rules.proofs.Links.{tests, then_ok, then_err}
use Rattle.rules.proofs.Handed.{handed_on}
use Rattle.c_given.specs.Given.{entry_by}
use Rattle.c_given.proofs.entry.Goals as goal

pub returns-then-n-lt1 : goal.returns-then-n-lt1
unfolding result_told entry_by
returns-then-n-lt1 c = search tests depth 6

pub returns-then-n-gt13 : goal.returns-then-n-gt13
unfolding result_told entry_by
returns-then-n-gt13 c = search tests depth 6

pub returns-in_err-given : goal.returns-in_err-given
unfolding entry_by
returns-in_err-given c =
    handed_on _ _ _ c.from_residual.ensures.1 (rw (le-leb 1 _ c.if-n-lt1.false, le-leb _ 13 c.if-n-gt13.false) (then_err _ _ _ _ _ c.told_layout.ensures c.in_err-given.was refl))

pub returns : goal.returns
unfolding entry_by
returns c = rw (le-leb 1 _ c.if-n-lt1.false, le-leb _ 13 c.if-n-gt13.false) (then_ok _ _ _ _ _ c.told_layout.ensures c.in_ok-given.was c.entry_at.ensures)
