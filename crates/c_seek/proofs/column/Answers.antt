-- `column` meets its contract: each way out is a way through `column_in`. Assumes nothing.
use mathlib.Core.Path.{sym, ◌∙◌}
use native.Mathlib.Omega.{arith}
use borrow.Author.Rules.{rules}
use borrow.Author.Tests.{not-true, not-false}
use Rattle.rules.proofs.Links.{need_le, need_gt, need_eq, need_ne, need_true, need_false, given_some, given_none}
use Rattle.c_seek.specs.Parts.{column_in}
use Rattle.c_seek.proofs.Turns.{found_stands}
use Rattle.c_seek.proofs.column.Goals as goal

pub span-requires : goal.span-requires
span-requires c =
    let a = found_stands _ _ _ _ _ _ (sym c.fits.ensures ∙ not-false _ c.if-not-fits.false-raw) (sym c.place.ensures ∙ c.in-Some.is) in
    (omega (arith, a.0, c.if-list-gt13.false), a.1.0, a.1.1)

pub returns-then-list-ne-ENTRIES : goal.returns-then-list-ne-ENTRIES
unfolding column_in
returns-then-list-ne-ENTRIES c = search (need_ne, rules) depth 8

pub returns-then-list-gt13 : goal.returns-then-list-gt13
unfolding column_in
returns-then-list-gt13 c = search (need_eq, need_gt, rules) depth 8

pub returns-then-not-fits : goal.returns-then-not-fits
unfolding column_in
returns-then-not-fits c = search (need_eq, need_le, need_false, not-true, rules) depth 12

pub returns-in_default : goal.returns-in_default
unfolding column_in
returns-in_default c = search (need_eq, need_le, need_true, not-false, given_none, rules) depth 16

pub returns : goal.returns
unfolding column_in
returns c = search (need_eq, need_le, need_true, not-false, given_some, rules) depth 16
