-- `line_read::fix` meets its contract: by a layout that is allowed it is what `line_known` reads. Assumes nothing.
use mathlib.Core.Path.{refl, sym, ◌∙◌, ap}
use borrow.Author.Tests.{not-true, not-false}
use Rattle.rules.specs.Reads.{fix_reading_told}
use Rattle.line_known.proofs.Laws.{fix_read, fix_not_read}
use Rattle.line_read.proofs.fix.Goals as goal

pub returns-then-not-allowed : goal.returns-then-not-allowed
unfolding fix_reading_told
returns-then-not-allowed c = fix_not_read _ _ (sym c.allowed.ensures ∙ not-true _ c.if-not-allowed.true-raw)

pub returns : goal.returns
returns c = c.fix.ensures ∙ fix_read _ _ (sym c.allowed.ensures ∙ not-false _ c.if-not-allowed.false-raw)
