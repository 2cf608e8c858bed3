-- `layout_codes::width_fits` meets its contract: a listed code is judged by its row. Assumes nothing.
use borrow.Author.Rules.{rules}
use borrow.Author.Tests.{lt-leb}
use Rattle.rules.specs.Listed.{width_fits}
use Rattle.layout_codes.proofs.Laws.{rows}
use Rattle.layout_codes.proofs.width_fits.Goals as goal

pub returns-else-row-width : goal.returns-else-row-width
unfolding width_fits
returns-else-row-width c =
    rw (← c.listed_number.ensures, c.in-Some.is, ← c.listed_at-row.ensures, lt-leb _ _ c.if-row-width.false)

pub returns-in_default : goal.returns-in_default
unfolding width_fits
returns-in_default c = search (rows, rules) depth 16

pub returns-then-row-width : goal.returns-then-row-width
unfolding width_fits
returns-then-row-width c = search (rows, rules) depth 16
